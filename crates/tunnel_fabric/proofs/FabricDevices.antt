-- A device's script stands within its fabric.
use Rattle.std.proofs.Common.{◌≡◌, ℕ, zero, suc, ◌+◌, ◌≤◌, Bool, true, false, cond, ◌==◌, ◌||◌, not, List, [], ◌∷◌, length, replicate, Result, Ok, Err, refl, sym, ap, ◌∙◌, subst, arith, length-append}
use Rattle.std.{specs.Prelude.flat_map, specs.List.AllByRecursion, specs.Int.w32, specs.Int.byte_len, specs.Int.bytes_low_first, proofs.lemmas.Bool.Decides.nat_tests}
use Rattle.dcd_base.specs.Layouts.{Field, Number, Masked, Raw, Reserved, Fixed, FitsField, Reads, spell, spelling}
use Rattle.dcd_base.proofs.{Fields.IsBytes, Fields.all_bytes, Fields.length_of_fields, Widths.wide_32}
use Rattle.region_config.specs.Configurations.{Configuration}
use Rattle.report.specs.script_codec.proofs.{FieldLaws.number_is, FieldLaws.number_sound, FieldLaws.part_bytes, FieldLaws.skip_is, FieldLaws.skip_sound, ScriptLaws.script_is, ScriptLaws.script_sound}
use Rattle.report.specs.script_codec.proofs.Spans.{AllStand, Spans, part_length, parted, size, spans_in, spans_out, spans_then}
use Rattle.report.specs.script_codec.specs.{Fields.skip, Fields.part, Fields.number_from, Reading.script_in, Scripts.are_lanes, Scripts.script_fields, Scripts.IsScript, Scripts.ReadsScript}
use Rattle.report.specs.script_codec.specs.declared.{faults.ScriptFault.ScriptFault, script_line.Line.Line, scripts.Script.Script}
use Rattle.tunnel_fabric.specs.{FabricFaults.as_in_script, FabricLayout.bare_script, FabricLayout.device_fields}
use Rattle.tunnel_fabric.specs.FabricReading.{◌▸◌, bare_config, bare_of, config_told, device_script_from, devices_from}
use Rattle.tunnel_fabric.specs.declared.faults.FabricFault.{FabricFault}

-- ---- one step after another
pub record FabricBound {A B : Type 0} (first : Result A FabricFault) (next : A → Result B FabricFault) (y : B) : Type 0 where
  pub value : A
  pub begun : first ≡ Ok value
  pub done : next value ≡ Ok y

pub fabric_bound : {A B : Type 0} (first : Result A FabricFault) (next : A → Result B FabricFault) (y : B) → (first ▸ next) ≡ Ok y → FabricBound first next y
fabric_bound (Ok x) next y is = record { value = x; begun = refl; done = is }
fabric_bound (Err fault) next y is = cc

pub fabric_ok : {A : Type 0} (x y : A) → ◌≡◌ {A = Result A FabricFault} (Ok x) (Ok y) → x ≡ y
fabric_ok x y e = cc

pub fabric_passed : {A : Type 0} (test : Bool) (fault : FabricFault) (x y : A) → cond test (Err fault) (Ok x) ≡ Ok y → (test ≡ false) × (x ≡ y)
fabric_passed false fault x y is = (refl, (cc))
fabric_passed true fault x y is = cc

pub in_script : {A : Type 0} (r : Result A ScriptFault) (x : A) → as_in_script r ≡ Ok x → r ≡ Ok x
in_script (Ok y) x is = ap Ok (fabric_ok y x is)
in_script (Err fault) x is = cc

-- ---- how far fields reach
low_length : (i k n : ℕ) → length (bytes_low_first i k n) ≡ k
low_length i zero n = refl
low_length i (suc k) n = ap suc (low_length (suc i) k n)

zeros_length : (n : ℕ) → length (replicate n zero) ≡ n
zeros_length zero = refl
zeros_length (suc n) = ap suc (zeros_length n)

spell_length : (field : Field) → FitsField field → length (spell field) ≡ size field
spell_length (Number w n) fits = low_length 0 (byte_len w) n
spell_length (Masked mask n) fits = refl
spell_length (Raw n bytes) fits = fits.0
spell_length (Reserved n) fits = zeros_length n
spell_length (Fixed bytes) fits = refl

reach : (bytes : List ℕ) (at next : ℕ) (fields : List Field) → AllStand bytes at next fields → next ≡ at + length (spelling fields)
reach bytes at next [] all = omega (arith, all)
reach bytes at next (f ∷ fs) all =
    omega (arith, reach bytes (at + size f) next fs all.1, spell_length f all.0.fits, length-append (spell f) (spelling fs))

reach_within : (bytes : List ℕ) (at next : ℕ) (fields : List Field) → at ≤ length bytes → AllStand bytes at next fields → next ≤ length bytes
reach_within bytes at next [] under all = omega (arith, under, all)
reach_within bytes at next (f ∷ fs) under all = reach_within bytes (at + size f) next fs all.0.within all.1

-- ---- a script of version 1 without lines
no_lines : (xs : List Line) → length xs ≡ 0 → xs ≡ []
no_lines [] e = refl
no_lines (x ∷ xs) e = absurd (omega (arith, e))

bare_is : (at : ℕ) (s : Script) (c : Configuration) → are_lanes s.version s.lanes ≡ true → bare_config at s ≡ Ok c → s ≡ bare_script c
bare_is at s c lanes is =
    let p = fabric_passed (not (s.version == 1) || not (length s.lines == 0)) (FabricFault.HasLines at) s.config c is in
    let version : s.version ≡ 1 = grind (arith, nat_tests) in
    let none : length s.lines ≡ 0 = grind (arith, nat_tests) in
    let one : s.lanes ≡ 1 = grind (arith, nat_tests) in
    let lines : s.lines ≡ [] = no_lines s.lines none in
    λ i. record { version = version i; lanes = one i; config = p.1 i; lines = lines i }

told_of : (at : ℕ) (r : Result Script ScriptFault) (c : Configuration) → bare_of at r ≡ Ok c → (s : Script) × (r ≡ Ok s) × (bare_config at s ≡ Ok c)
told_of at (Ok s) c is = (s, refl, is)
told_of at (Err fault) c is = cc

module _ (bytes : List ℕ) (small : IsBytes bytes) where
  pub device_sound : (at : ℕ) (x : Configuration × ℕ) → device_script_from bytes at ≡ Ok x → Spans bytes at x.1 (device_fields x.0) × IsScript (bare_script x.0)
  unfolding device_script_from
  device_sound at x is =
      let size = fabric_bound (as_in_script (number_from w32 bytes at)) _ x is in
      let next = fabric_bound (as_in_script (skip size.value.0 bytes size.value.1)) _ x size.done in
      let config = fabric_bound (config_told size.value.1 (part size.value.0 bytes size.value.1)) _ x next.done in
      let told = told_of size.value.1 (script_in (part size.value.0 bytes size.value.1)) config.value config.begun in
      let numbered = number_sound w32 wide_32 bytes at size.value small (in_script (number_from w32 bytes at) size.value size.begun) in
      let skipped = skip_sound size.value.0 bytes size.value.1 next.value (in_script (skip size.value.0 bytes size.value.1) next.value next.begun) in
      let within : size.value.1 + size.value.0 ≤ length bytes = skipped.all.0.within in
      let reads : ReadsScript (part size.value.0 bytes size.value.1) told.0 = script_sound (part size.value.0 bytes size.value.1) told.0 (part_bytes size.value.0 bytes size.value.1 small) told.1 in
      let bare : ReadsScript (part size.value.0 bytes size.value.1) (bare_script config.value) =
      subst (λ s. ReadsScript (part size.value.0 bytes size.value.1) s) (bare_is size.value.1 told.0 config.value reads.script.versioned told.2) reads in
      let long : size.value.0 ≡ length (spelling (script_fields (bare_script config.value))) =
      sym (part_length bytes size.value.1 size.value.0 within) ∙ length_of_fields (part size.value.0 bytes size.value.1) (script_fields (bare_script config.value)) bare.reads.agrees in
      subst (λ (y : Configuration × ℕ). Spans bytes at y.1 (device_fields y.0) × IsScript (bare_script y.0)) ((λ i. (config.value, skipped.all.1 i)) ∙ fabric_ok _ x config.done) (
        spans_then (subst (λ n. Spans bytes at size.value.1 (Number w32 n ∷ [])) long numbered) (spans_out bytes size.value.1 size.value.0 (script_fields (bare_script config.value)) within bare.reads),
        bare.script,
      )

  pub device_is : length bytes ≤ 16777216 → (at next : ℕ) (c : Configuration) → IsScript (bare_script c) → Spans bytes at next (device_fields c) → device_script_from bytes at ≡ Ok (c, next)
  unfolding device_script_from
  device_is short at next c script spans =
      let n : ℕ = length (spelling (script_fields (bare_script c))) in
      let end : next ≡ at + 4 + length (spelling (script_fields (bare_script c))) = reach bytes (at + 4) next (script_fields (bare_script c)) spans.all.1 in
      let under : next ≤ length bytes = reach_within bytes (at + 4) next (script_fields (bare_script c)) spans.all.0.within spans.all.1 in
      let within : at + 4 + length (spelling (script_fields (bare_script c))) ≤ length bytes = omega (arith, end, under) in
      let reads : Reads (part n bytes (at + 4)) (script_fields (bare_script c)) =
      spans_in bytes (at + 4) n (script_fields (bare_script c)) within (all_bytes (part n bytes (at + 4)) (part_bytes n bytes (at + 4) small))
      (subst (λ place. Spans bytes (at + 4) place (script_fields (bare_script c))) end (record { all = spans.all.1 })) in
      let told : script_in (part n bytes (at + 4)) ≡ Ok (bare_script c) =
      script_is (part n bytes (at + 4)) (bare_script c) (record { script = script; reads = reads; short = omega (arith, part_length bytes (at + 4) n within, within, short) }) in
      rw (number_is w32 wide_32 bytes at n spans.all.0, skip_is n bytes (at + 4) within, told) (ap (λ place. Ok (c, place)) (sym end))

  -- ---- all devices
  pub record DevicesStand (n at : ℕ) (x : List Configuration × ℕ) : Type 0 where
    pub count : length x.0 ≡ n
    pub spans : Spans bytes at x.1 (flat_map device_fields x.0)
    pub scripts : AllByRecursion (λ (c : Configuration). IsScript (bare_script c)) x.0

  pub devices_sound : (n at : ℕ) (xs : List Configuration × ℕ) → devices_from n bytes at ≡ Ok xs → DevicesStand n at xs
  unfolding devices_from
  devices_sound zero at xs is =
      subst (λ (y : List Configuration × ℕ). DevicesStand zero at y) (fabric_ok ([], at) xs is) (record { count = refl; spans = record { all = refl }; scripts = tt })
  devices_sound (suc n) at xs is =
      let first = fabric_bound (device_script_from bytes at) _ xs is in
      let others = fabric_bound (devices_from n bytes first.value.1) _ xs first.done in
      let here = device_sound at first.value first.begun in
      let rest = devices_sound n first.value.1 others.value others.begun in
      subst (λ (y : List Configuration × ℕ). DevicesStand (suc n) at y) (fabric_ok _ xs others.done)
      (record { count = ap suc rest.count; spans = spans_then here.0 rest.spans; scripts = (here.1, rest.scripts) })

  pub devices_are : length bytes ≤ 16777216 → (at next : ℕ) (xs : List Configuration) → AllByRecursion (λ (c : Configuration). IsScript (bare_script c)) xs → Spans bytes at next (flat_map device_fields xs) → devices_from (length xs) bytes at ≡ Ok (xs, next)
  unfolding devices_from
  devices_are short at next [] all spans = ap (λ place. Ok ([], place)) spans.all
  devices_are short at next (x ∷ xs) all spans =
      let p = parted bytes at next (device_fields x) (flat_map device_fields xs) spans in
      rw (device_is short at p.mid x all.0 p.front, devices_are short p.mid next xs all.1 p.back) refl
