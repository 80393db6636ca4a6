-- A fabric is read exactly where its fields stand.
use Rattle.std.proofs.Common.{◌≡◌, ℕ, zero, suc, ◌+◌, ◌≤◌, Bool, true, false, cond, nat_lt, ◌==◌, not, List, [], ◌∷◌, ◌++◌, length, Result, Ok, Err, refl, sym, ◌∙◌, subst, arith, append_assoc}
use Rattle.std.{proofs.lemmas.Bool.le-ltb, proofs.lemmas.Bool.lt-ltb, proofs.lemmas.Bool.Decides.nat_tests, proofs.lemmas.Option.none-some, proofs.lemmas.Option.same_Some, specs.Int.w8, specs.Int.w16}
use Rattle.std.specs.{List.list_all, List.AllByRecursion, Prelude.flat_map, Prelude.slice_get, Prelude.Some, Prelude.IfOk}
use lib.Pointwise.{pointwise, bytes_decides}
use borrow.Author.Tests.{ltb-false, eqb-true}
use Rattle.dcd_base.{specs.Layouts.Field, specs.Layouts.Number, specs.Layouts.Raw, proofs.Fields.IsBytes, proofs.Fields.all_bytes, proofs.Widths.wide_8, proofs.Widths.wide_16}
use Rattle.region_config.specs.Configurations.{Configuration}
use Rattle.report.specs.script_codec.proofs.FieldLaws.{bound, number_is, number_sound, ok_is, passed, passing, skip_is, skip_sound}
use Rattle.report.specs.script_codec.proofs.{LineLaws.both, ScriptLaws.each_byte, Spans.Spans, Spans.Stands, Spans.parted, Spans.reads_from_spans, Spans.spans_from_reads, Spans.spans_then}
use Rattle.report.specs.script_codec.proofs.Writable.{both_first, both_second, counted}
use Rattle.report.specs.script_codec.specs.{Fields.◌>>=◌, Fields.number_from, Fields.part, Fields.skip, Scripts.IsScript, declared.faults.ScriptFault.ScriptFault}
use Rattle.tunnel_fabric.proofs.FabricDevices.{devices_are, devices_sound, fabric_bound, fabric_ok, fabric_passed, in_script}
use Rattle.tunnel_fabric.proofs.FabricLineLaws.{FabricLineStands, fabric_kind_is, fabric_kind_sound, fabric_line_is, fabric_line_sound}
use Rattle.tunnel_fabric.specs.FabricFaults.{as_in_script}
use Rattle.tunnel_fabric.specs.FabricLayout.{bare_script, device_fields, fabric_fields, fabric_front, fabric_line_fields, fabric_magic, is_sound_fabric_line, ReadsFabric}
use Rattle.tunnel_fabric.specs.{FabricLines.fabric_end_from, FabricLines.fabric_kind_from, FabricLines.fabric_line_from, FabricLines.fabric_lines_from, declared.fabric_lines.FabricLine.FabricLine}
use Rattle.tunnel_fabric.specs.declared.{fabric_scripts.FabricScript.FabricScript, faults.FabricFault.FabricFault}
use Rattle.tunnel_fabric.specs.FabricReading.{bad_device_count, device_count_in, devices_from, fabric_fields_in, fabric_in, fabric_magic_from, fabric_version_from, front_from, GivesFabric, IsFabricRead, IsReadAsFabric, most_fabric_bytes, most_fabric_lines}

-- the end word
abbrev end_fields : List Field
end_fields = Number w8 0 ∷ []

module _ (bytes : List ℕ) (small : IsBytes bytes) where
  -- ---- what stands before the devices
  magic_sound : (at next : ℕ) → fabric_magic_from bytes at ≡ Ok next → Spans bytes at next (Raw 4 fabric_magic ∷ [])
  unfolding fabric_magic_from
  magic_sound at next is =
      let b = bound (skip 4 bytes at) _ next is in
      let skipped = skip_sound 4 bytes at b.value b.begun in
      let p = passing (pointwise ◌==◌ (part 4 bytes at) fabric_magic) ScriptFault.BadMagic b.value next b.done in
      record { all = (record { fits = (refl, refl); within = skipped.all.0.within; reads = (bytes_decides (part 4 bytes at) fabric_magic).0 p.0 }, skipped.all.1 ∙ p.1) }

  magic_is : (at : ℕ) → Stands bytes at (Raw 4 fabric_magic) → fabric_magic_from bytes at ≡ Ok (at + 4)
  unfolding fabric_magic_from
  magic_is at stands = rw (skip_is 4 bytes at stands.within, (bytes_decides (part 4 bytes at) fabric_magic).1 stands.reads) refl

  version_sound : (at next : ℕ) → fabric_version_from bytes at ≡ Ok next → Spans bytes at next (Number w16 1 ∷ [])
  unfolding fabric_version_from
  version_sound at next is =
      let b = bound (number_from w16 bytes at) _ next is in
      let p = passed (not (b.value.0 == 1)) (ScriptFault.BadVersion b.value.0) b.value.1 next b.done in
      let one : b.value.0 ≡ 1 = grind (arith, nat_tests) in
      subst (λ place. Spans bytes at place (Number w16 1 ∷ [])) p.1 (subst (λ n. Spans bytes at b.value.1 (Number w16 n ∷ [])) one (number_sound w16 wide_16 bytes at b.value small b.begun))

  version_is : (at : ℕ) → Stands bytes at (Number w16 1) → fabric_version_from bytes at ≡ Ok (at + 2)
  unfolding fabric_version_from
  version_is at stands = rw (number_is w16 wide_16 bytes at 1 stands) refl

  front_sound : (at : ℕ) (x : ℕ × ℕ) → front_from bytes at ≡ Ok x → Spans bytes at x.1 (Raw 4 fabric_magic ∷ Number w16 1 ∷ Number w8 x.0 ∷ [])
  unfolding front_from
  front_sound at x is =
      let begun = bound (fabric_magic_from bytes at) _ x is in
      let versioned = bound (fabric_version_from bytes begun.value) _ x begun.done in
      let count = bound (number_from w8 bytes versioned.value) _ x versioned.done in
      subst (λ (y : ℕ × ℕ). Spans bytes at y.1 (Raw 4 fabric_magic ∷ Number w16 1 ∷ Number w8 y.0 ∷ [])) (ok_is _ x count.done)
      (spans_then (magic_sound at begun.value begun.begun)
      (spans_then (version_sound begun.value versioned.value versioned.begun) (number_sound w8 wide_8 bytes versioned.value count.value small count.begun)))

  front_is : (at n : ℕ) → Stands bytes at (Raw 4 fabric_magic) → Stands bytes (at + 4) (Number w16 1) → Stands bytes (at + 4 + 2) (Number w8 n) → front_from bytes at ≡ Ok (n, at + 4 + 2 + 1)
  unfolding front_from
  front_is at n magic version count = rw (magic_is at magic, version_is (at + 4) version, number_is w8 wide_8 bytes (at + 4 + 2) n count) refl

  -- ---- lines
  module _ (configs : List Configuration) where
    pub record FabricLinesStand (n at : ℕ) (lines : List FabricLine) : Type 0 where
      pub spans : Spans bytes at (length bytes) (flat_map fabric_line_fields lines ++ end_fields)
      pub sound : list_all (is_sound_fabric_line configs) lines ≡ true
      pub few : length lines ≤ n

    ended : (n at : ℕ) (kind : ℕ × ℕ) (lines : List FabricLine) → Spans bytes at kind.1 (Number w8 kind.0 ∷ []) → kind.0 ≡ 0 → fabric_end_from bytes kind.1 ≡ Ok lines → FabricLinesStand n at lines
    ended n at kind lines spans zero_is is =
        let p = passed (nat_lt kind.1 (length bytes)) (ScriptFault.AfterEnd kind.1) [] lines is in
        let end : kind.1 ≡ length bytes = omega (arith, spans.all.1, spans.all.0.within, ltb-false kind.1 (length bytes) p.0) in
        subst (λ found. FabricLinesStand n at found) p.1
        (record {
          spans = subst (λ place. Spans bytes at place end_fields) end (subst (λ k. Spans bytes at kind.1 (Number w8 k ∷ [])) zero_is spans);
          sound = refl;
          few = omega arith;
        })

    at_zero : (n at : ℕ) (kind : ℕ × ℕ) (lines : List FabricLine) (test : Bool) → (kind.0 == 0) ≡ test → Spans bytes at kind.1 (Number w8 kind.0 ∷ []) → cond test (fabric_end_from bytes kind.1) (Err (ScriptFault.TooManyLines at)) ≡ Ok lines → FabricLinesStand n at lines
    at_zero n at kind lines true e spans is = ended n at kind lines spans (eqb-true kind.0 0 e) is
    at_zero n at kind lines false e spans is = cc

    one_more : (n at : ℕ) (line : FabricLine × ℕ) (rest : List FabricLine) (kind mid : ℕ) → FabricLineStands bytes small configs mid kind line → Spans bytes at mid (Number w8 kind ∷ []) → FabricLinesStand n line.1 rest → FabricLinesStand (suc n) at (line.0 ∷ rest)
    one_more n at line rest kind mid stands spans others = record {
      spans = subst (λ fields. Spans bytes at (length bytes) fields) (sym (append_assoc (fabric_line_fields line.0) (flat_map fabric_line_fields rest) end_fields)) (spans_then (stands.spans at spans) others.spans);
      sound = both (is_sound_fabric_line configs line.0) (list_all (is_sound_fabric_line configs) rest) stands.sound others.sound;
      few = omega (arith, others.few);
    }

    pub fabric_lines_sound : (n at : ℕ) (lines : List FabricLine) → fabric_lines_from n configs bytes at ≡ Ok lines → FabricLinesStand n at lines
    unfolding fabric_lines_from
    fabric_lines_sound zero at lines is =
        let kind = bound (fabric_kind_from bytes at) _ lines is in
        at_zero zero at kind.value lines (kind.value.0 == 0) refl (fabric_kind_sound bytes small at kind.value kind.begun).0 kind.done
    fabric_lines_sound (suc n) at lines is =
        let kind = bound (fabric_kind_from bytes at) _ lines is in
        let k = fabric_kind_sound bytes small at kind.value kind.begun in
        by kind.value (kind.value.0 == 0) refl k.0 k.1 (fabric_lines_sound n) kind.done
      where
        by : (kind : ℕ × ℕ) (test : Bool) → (kind.0 == 0) ≡ test → Spans bytes at kind.1 (Number w8 kind.0 ∷ []) → kind.0 ≤ 2 → ((place : ℕ) (rest : List FabricLine) → fabric_lines_from n configs bytes place ≡ Ok rest → FabricLinesStand n place rest) → cond test (fabric_end_from bytes kind.1) (fabric_line_from kind.0 configs bytes kind.1 >>= (λ line. fabric_lines_from n configs bytes line.1 >>= (λ rest. Ok (line.0 ∷ rest)))) ≡ Ok lines → FabricLinesStand (suc n) at lines
        by kind true e spans few rest_sound done = ended (suc n) at kind lines spans (eqb-true kind.0 0 e) done
        by kind false e spans few rest_sound done =
            let line = bound (fabric_line_from kind.0 configs bytes kind.1) _ lines done in
            let rest = bound (fabric_lines_from n configs bytes line.value.1) _ lines line.done in
            subst (λ found. FabricLinesStand (suc n) at found) (ok_is _ lines rest.done)
            (one_more n at line.value rest.value kind.0 kind.1 (fabric_line_sound bytes small configs kind.0 kind.1 line.value e few line.begun) spans (rest_sound line.value.1 rest.value rest.begun))

    pub fabric_lines_are : ((k : ℕ) (c : Configuration) → slice_get configs k ≡ Some c → c.hosts ≤ 16) → (n at : ℕ) (lines : List FabricLine) → length lines ≤ n → list_all (is_sound_fabric_line configs) lines ≡ true → Spans bytes at (length bytes) (flat_map fabric_line_fields lines ++ end_fields) → fabric_lines_from n configs bytes at ≡ Ok lines
    unfolding fabric_lines_from
    fabric_lines_are few_hosts zero at [] few sound spans =
        let done : nat_lt (at + 1) (length bytes) ≡ false = le-ltb (at + 1) (length bytes) (omega (arith, spans.all.1)) in
        rw (fabric_kind_is bytes small at 0 spans.all.0 (omega arith), done) refl
    fabric_lines_are few_hosts (suc n) at [] few sound spans =
        let done : nat_lt (at + 1) (length bytes) ≡ false = le-ltb (at + 1) (length bytes) (omega (arith, spans.all.1)) in
        rw (fabric_kind_is bytes small at 0 spans.all.0 (omega arith), done) refl
    fabric_lines_are few_hosts zero at (line ∷ lines) few sound spans = absurd (omega (arith, few))
    fabric_lines_are few_hosts (suc n) at (line ∷ lines) few sound spans =
        let whole : Spans bytes at (length bytes) (fabric_line_fields line ++ (flat_map fabric_line_fields lines ++ end_fields)) = subst (λ fields. Spans bytes at (length bytes) fields) (append_assoc (fabric_line_fields line) (flat_map fabric_line_fields lines) end_fields) spans in
        let p = parted bytes at (length bytes) (fabric_line_fields line) (flat_map fabric_line_fields lines ++ end_fields) whole in
        let first = fabric_line_is bytes small configs few_hosts at p.mid line (both_first (is_sound_fabric_line configs line) (list_all (is_sound_fabric_line configs) lines) sound) p.front in
        let rest : fabric_lines_from n configs bytes p.mid ≡ Ok lines = fabric_lines_are few_hosts n p.mid lines (omega (arith, few)) (both_second (is_sound_fabric_line configs line) (list_all (is_sound_fabric_line configs) lines) sound) p.back in
        rw (first.kind_is, first.other, first.line_is, rest) refl

-- ---- whole fabrics
few_devices : (n : ℕ) → bad_device_count n ≡ false → (1 ≤ n) × (n ≤ 8)
few_devices n good = (grind (arith, nat_tests), grind (arith, nat_tests))

-- each device has few hosts
few_hosts : (configs : List Configuration) → AllByRecursion (λ (c : Configuration). IsScript (bare_script c)) configs → (k : ℕ) (c : Configuration) → slice_get configs k ≡ Some c → c.hosts ≤ 16
few_hosts [] all k c is = absurd (none-some c is)
few_hosts (d ∷ configs) all zero c is = subst (λ (e : Configuration). e.hosts ≤ 16) (same_Some d c is) (counted d all.0.configured).few_hosts
few_hosts (d ∷ configs) all (suc k) c is = few_hosts configs all.1 k c is

fields_sound : (bytes : List ℕ) (f : FabricScript) → IsBytes bytes → length bytes ≤ 16777216 → fabric_fields_in bytes ≡ Ok f → ReadsFabric bytes f
unfolding fabric_fields_in
fields_sound bytes f small short is =
    let front = fabric_bound (as_in_script (front_from bytes 0)) _ f is in
    let count = fabric_bound (device_count_in front.value.0) _ f front.done in
    let reserved = fabric_bound (as_in_script (skip 1 bytes front.value.1)) _ f count.done in
    let devices = fabric_bound (devices_from count.value bytes reserved.value) _ f reserved.done in
    let lines = fabric_bound (as_in_script (fabric_lines_from most_fabric_lines devices.value.0 bytes devices.value.1)) _ f devices.done in
    let few = fabric_passed (bad_device_count front.value.0) (FabricFault.BadCount front.value.0) front.value.0 count.value count.begun in
    let some = few_devices front.value.0 few.0 in
    let ds = devices_sound bytes small count.value reserved.value devices.value devices.begun in
    let n : front.value.0 ≡ length devices.value.0 = few.1 ∙ sym ds.count in
    let ls = fabric_lines_sound bytes small devices.value.0 most_fabric_lines devices.value.1 lines.value (in_script (fabric_lines_from most_fabric_lines devices.value.0 bytes devices.value.1) lines.value lines.begun) in
    let head : Spans bytes 0 front.value.1 (Raw 4 fabric_magic ∷ Number w16 1 ∷ Number w8 (length devices.value.0) ∷ []) =
    subst (λ k. Spans bytes 0 front.value.1 (Raw 4 fabric_magic ∷ Number w16 1 ∷ Number w8 k ∷ [])) n (front_sound bytes small 0 front.value (in_script (front_from bytes 0) front.value front.begun)) in
    let free = skip_sound 1 bytes front.value.1 reserved.value (in_script (skip 1 bytes front.value.1) reserved.value reserved.begun) in
    subst (λ found. ReadsFabric bytes found) (fabric_ok _ f lines.done)
    (record {
      fabric = record {
        some = omega (arith, some.0, n);
        few = omega (arith, some.1, n);
        devices = ds.scripts;
        sound = ls.sound;
        few_lines = ls.few;
      };
      reads = reads_from_spans bytes (fabric_fields (record { configs = devices.value.0; lines = lines.value })) (all_bytes bytes small) (spans_then (spans_then head free) (spans_then ds.spans ls.spans));
      short = short;
    })

-- bytes that are read as a fabric read as it by the layout
pub fabric_sound : (bytes : List ℕ) (f : FabricScript) → IsBytes bytes → fabric_in bytes ≡ Ok f → ReadsFabric bytes f
unfolding fabric_in
fabric_sound bytes f small is = by (nat_lt most_fabric_bytes (length bytes)) refl is
  where
    by : (test : Bool) → nat_lt most_fabric_bytes (length bytes) ≡ test → cond test (Err FabricFault.TooLong) (fabric_fields_in bytes) ≡ Ok f → ReadsFabric bytes f
    by true e done = cc
    by false e done = fields_sound bytes f small (ltb-false most_fabric_bytes (length bytes) e) done

good_count : (n : ℕ) → 1 ≤ n → n ≤ 8 → device_count_in n ≡ Ok n
good_count n some few = rw (le-ltb n 1 some, le-ltb 8 n few) refl

-- bytes that read as a fabric by the layout are read as it
pub fabric_is : (bytes : List ℕ) (f : FabricScript) → ReadsFabric bytes f → fabric_in bytes ≡ Ok f
unfolding fabric_in fabric_fields_in
fabric_is bytes f reads =
    let small = each_byte bytes reads.reads.in_range in
    let whole : Spans bytes 0 (length bytes) (fabric_front f ++ (flat_map device_fields f.configs ++ (flat_map fabric_line_fields f.lines ++ end_fields))) = spans_from_reads bytes (fabric_fields f) reads.reads in
    let p = parted bytes 8 (length bytes) (flat_map device_fields f.configs) (flat_map fabric_line_fields f.lines ++ end_fields) (record { all = whole.all.1.1.1.1 }) in
    let not_long : nat_lt most_fabric_bytes (length bytes) ≡ false = le-ltb most_fabric_bytes (length bytes) reads.short in
    rw (
      not_long,
      front_is bytes small 0 (length f.configs) whole.all.0 whole.all.1.0 whole.all.1.1.0,
      good_count (length f.configs) reads.fabric.some reads.fabric.few,
      skip_is 1 bytes 7 whole.all.1.1.1.0.within,
      devices_are bytes small reads.short 8 p.mid f.configs reads.fabric.devices p.front,
      fabric_lines_are bytes small f.configs (few_hosts f.configs reads.fabric.devices) most_fabric_lines p.mid f.lines reads.fabric.few_lines reads.fabric.sound p.back,
    ) refl

-- ---- the call

pub fabric_too_long : (bytes : List ℕ) → suc most_fabric_bytes ≤ length bytes → fabric_in bytes ≡ Err FabricFault.TooLong
unfolding fabric_in
fabric_too_long bytes long = rw (lt-ltb most_fabric_bytes (length bytes) (omega (arith, long))) refl

pub fabric_of_fields : (bytes : List ℕ) (r : Result FabricScript FabricFault) → length bytes ≤ most_fabric_bytes → GivesFabric (λ f. f) r (fabric_fields_in bytes) → IsFabricRead bytes r
unfolding fabric_in
fabric_of_fields bytes (Ok f) short gives = rw (le-ltb most_fabric_bytes (length bytes) short) gives
fabric_of_fields bytes (Err fault) short gives = λ real. rw (le-ltb most_fabric_bytes (length bytes) short) (gives real)

pub fabric_reads : (bytes : List ℕ) (r : Result FabricScript FabricFault) → IsBytes bytes → IsFabricRead bytes r → IfOk r (λ f. ReadsFabric bytes f)
fabric_reads bytes (Ok found) small is = fabric_sound bytes found small is
fabric_reads bytes (Err fault) small is = tt

other_fault : (fault : FabricFault) → ((fault ≡ FabricFault.NoMemory → ⊥) → ⊥) → fault ≡ FabricFault.NoMemory
other_fault FabricFault.NoMemory un = refl
other_fault FabricFault.BadMagic un = absurd (un (λ e. cc))
other_fault (FabricFault.BadVersion n) un = absurd (un (λ e. cc))
other_fault (FabricFault.BadCount n) un = absurd (un (λ e. cc))
other_fault (FabricFault.Truncated count) un = absurd (un (λ e. cc))
other_fault (FabricFault.BadScript at fault) un = absurd (un (λ e. cc))
other_fault (FabricFault.HasLines at) un = absurd (un (λ e. cc))
other_fault (FabricFault.UnknownKind at) un = absurd (un (λ e. cc))
other_fault (FabricFault.UnknownTarget at) un = absurd (un (λ e. cc))
other_fault (FabricFault.BadMessage at fault) un = absurd (un (λ e. cc))
other_fault (FabricFault.AfterEnd at) un = absurd (un (λ e. cc))
other_fault FabricFault.TooLong un = absurd (un (λ e. cc))
other_fault (FabricFault.TooManyLines at) un = absurd (un (λ e. cc))

pub fabric_only : (bytes : List ℕ) (r : Result FabricScript FabricFault) → IsFabricRead bytes r → (f : FabricScript) → ReadsFabric bytes f → IsReadAsFabric f r
fabric_only bytes (Ok found) is f reads = fabric_ok found f (sym is ∙ fabric_is bytes f reads)
fabric_only bytes (Err fault) is f reads = other_fault fault (λ real. let e = sym (fabric_is bytes f reads) ∙ is real in cc)
