-- What reading the head answers is what stands there.
use Rattle.std.proofs.Common.{◌≡◌, ℕ, zero, suc, ◌+◌, ◌*◌, ◌/◌, ◌%◌, ◌<◌, Bool, true, false, cond, ◌==◌, not, List, [], ◌∷◌, ◌++◌, length, get_or, take, drop, map, Option, Some, None, Ok, refl, sym, ap, ◌∙◌, subst, arith, bit_and}
use Rattle.std.proofs.lemmas.{Bool.Decides.nat_tests, List.Concat.flat_map_single, Nat.and_mask, Nat.Bits.and_pow}
use Rattle.std.specs.{Int.w8, Int.w16, Int.w32, Int.w64, Prelude.flat_map}
use lib.Pointwise.{pointwise, bytes_decides}
use Rattle.cci_codec.specs.dcd_base.proofs.{Fields.IsBytes, Widths.wide_8, Widths.wide_16, Widths.wide_32, Widths.wide_64}
use Rattle.cci_codec.specs.dcd_base.specs.{Layouts.Field, Layouts.Number, Layouts.Masked, Layouts.Raw, Layouts.Reserved, Words.flag_of}
use Rattle.region_config.specs.{declared.region_spec.RegionSpec.RegionSpec, declared.faults.ConfigFault.ConfigFault, Configurations.Configuration, Setups.bad_count, Setups.config_fault}
use Rattle.script_codec.proofs.{Spans.Stands, Spans.Spans, Spans.spans_then, Spans.parted, Writable.laned, Writable.count_good}
use Rattle.script_codec.specs.{Fields.skip, Fields.part, Fields.number_from, Fields.many_from, declared.faults.ScriptFault.ScriptFault, declared.heads.Head.Head, declared.script_line.Line.Line}
use Rattle.script_codec.specs.declared.scripts.Script.{Script}
use Rattle.script_codec.specs.Heads.{magic_from, version_from, counts_from, told_lanes_from, lanes_and_reserved_from, one_lane_from, lanes_from, region_from, sound_config, config_of, config_from, head_from}
use Rattle.script_codec.specs.Scripts.{magic, region_fields, lanes_fields, bad_version, bad_lanes, are_lanes, start_fields, script_head, IsScript}
use Rattle.script_codec.proofs.FieldLaws.{part_bytes, bound, ok_is, passed, passing, skip_sound, skip_is, number_sound, number_is, many_sound, many_is}

-- ---- the flags of a region
flag_is : (n : ℕ) → n < 2 → flag_of (n == 1) ≡ n
flag_is zero under = refl
flag_is (suc zero) under = refl
flag_is (suc (suc n)) under = absurd (omega (arith, under))

second_flag_is : (n : ℕ) → n < 2 → flag_of (n * 2 == 2) ≡ n
second_flag_is zero under = refl
second_flag_is (suc zero) under = refl
second_flag_is (suc (suc n)) under = absurd (omega (arith, under))

flags_low : (b : ℕ) → bit_and b 3 ≡ flag_of (bit_and b 1 == 1) + 2 * flag_of (bit_and b 2 == 2)
flags_low b =
    let low : flag_of (bit_and b 1 == 1) ≡ b % 2 = ap (λ n. flag_of (n == 1)) (and_mask b 1) ∙ flag_is (b % 2) (omega arith) in
    let high : flag_of (bit_and b 2 == 2) ≡ b / 2 % 2 = ap (λ n. flag_of (n == 2)) (and_pow b 1) ∙ second_flag_is (b / 2 % 2) (omega arith) in
    let all : bit_and b 3 ≡ b % 4 = and_mask b 2 in
    omega (arith, low, high, all)

flags_fit : (sanitize shareable : Bool) → bit_and (flag_of sanitize + 2 * flag_of shareable) 3 ≡ flag_of sanitize + 2 * flag_of shareable
flags_fit true true = refl
flags_fit true false = refl
flags_fit false true = refl
flags_fit false false = refl

flags_tell : (b : ℕ) (sanitize shareable : Bool) → bit_and b 3 ≡ flag_of sanitize + 2 * flag_of shareable → ((bit_and b 1 == 1) ≡ sanitize) × ((bit_and b 2 == 2) ≡ shareable)
flags_tell b true true e =
    let low : bit_and b 1 ≡ 1 = and_mask b 1 ∙ omega (arith, and_mask b 2, e) in
    let high : bit_and b 2 ≡ 2 = and_pow b 1 ∙ omega (arith, and_mask b 2, e) in
    (rw low refl, rw high refl)
flags_tell b true false e =
    let low : bit_and b 1 ≡ 1 = and_mask b 1 ∙ omega (arith, and_mask b 2, e) in
    let high : bit_and b 2 ≡ 0 = and_pow b 1 ∙ omega (arith, and_mask b 2, e) in
    (rw low refl, rw high refl)
flags_tell b false true e =
    let low : bit_and b 1 ≡ 0 = and_mask b 1 ∙ omega (arith, and_mask b 2, e) in
    let high : bit_and b 2 ≡ 2 = and_pow b 1 ∙ omega (arith, and_mask b 2, e) in
    (rw low refl, rw high refl)
flags_tell b false false e =
    let low : bit_and b 1 ≡ 0 = and_mask b 1 ∙ omega (arith, and_mask b 2, e) in
    let high : bit_and b 2 ≡ 0 = and_pow b 1 ∙ omega (arith, and_mask b 2, e) in
    (rw low refl, rw high refl)

module _ (bytes : List ℕ) where
  pub magic_sound : (at next : ℕ) → magic_from bytes at ≡ Ok next → Spans bytes at next (Raw 4 magic ∷ [])
  unfolding magic_from
  magic_sound at next is =
      let b = bound (skip 4 bytes at) _ next is in
      let skipped = skip_sound 4 bytes at b.value b.begun in
      let p = passing (pointwise ◌==◌ (part 4 bytes at) magic) ScriptFault.BadMagic b.value next b.done in
      record { all = (record { fits = (refl, refl); within = skipped.all.0.within; reads = (bytes_decides (part 4 bytes at) magic).0 p.0 }, skipped.all.1 ∙ p.1) }

  pub magic_is : (at : ℕ) → Stands bytes at (Raw 4 magic) → magic_from bytes at ≡ Ok (at + 4)
  unfolding magic_from
  magic_is at stands = rw (skip_is 4 bytes at stands.within, (bytes_decides (part 4 bytes at) magic).1 stands.reads) refl

  -- ---- a region
  module _ (small : IsBytes bytes) where
    flags_found : (at next n v : ℕ) → Spans bytes at next (Number w8 n ∷ []) → bit_and n 3 ≡ v → bit_and v 3 ≡ v → Spans bytes at next (Masked 3 v ∷ [])
    flags_found at next n v spans low fits =
        let one : n % 256 ≡ n = omega (arith, spans.all.0.fits) in
        record { all = (record { fits = fits; within = spans.all.0.within; reads = (n, spans.all.0.reads ∙ ap (λ (m : ℕ). m ∷ []) one, low) }, spans.all.1) }

    pub region_sound : (at : ℕ) (x : RegionSpec × ℕ) → region_from bytes at ≡ Ok x → Spans bytes at x.1 (region_fields x.0)
    unfolding region_from
    region_sound at x is =
        let units = bound (number_from w64 bytes at) _ x is in
        let size = bound (number_from w64 bytes units.value.1) _ x units.done in
        let block = bound (number_from w64 bytes size.value.1) _ x size.done in
        let sizes = bound (number_from w64 bytes block.value.1) _ x block.done in
        let handle = bound (number_from w32 bytes sizes.value.1) _ x sizes.done in
        let flags = bound (number_from w8 bytes handle.value.1) _ x handle.done in
        let next = bound (skip 3 bytes flags.value.1) _ x flags.done in
        let b = flags.value.0 in
        subst (λ (p : RegionSpec × ℕ). Spans bytes at p.1 (region_fields p.0)) (ok_is _ x next.done)
        (spans_then (number_sound w64 wide_64 bytes at units.value small units.begun)
        (spans_then (number_sound w64 wide_64 bytes units.value.1 size.value small size.begun)
        (spans_then (number_sound w64 wide_64 bytes size.value.1 block.value small block.begun)
        (spans_then (number_sound w64 wide_64 bytes block.value.1 sizes.value small sizes.begun)
        (spans_then (number_sound w32 wide_32 bytes sizes.value.1 handle.value small handle.begun)
        (spans_then (flags_found handle.value.1 flags.value.1 flags.value.0 _ (number_sound w8 wide_8 bytes handle.value.1 flags.value small flags.begun) (flags_low flags.value.0) (flags_fit (bit_and flags.value.0 1 == 1) (bit_and flags.value.0 2 == 2)))
        (skip_sound 3 bytes flags.value.1 next.value next.begun)))))))

    byte_stands : (at v b : ℕ) → Stands bytes at (Masked 3 v) → take 1 (drop at bytes) ≡ b ∷ [] → Stands bytes at (Number w8 b)
    byte_stands at v b stands e =
        let under : b < 256 = subst (λ piece. get_or piece 0 0 < 256) e (part_bytes 1 bytes at small 0) in
        record { fits = under; within = stands.within; reads = e ∙ ap (λ (m : ℕ). m ∷ []) (omega (arith, under)) }

    pub region_is : (at next : ℕ) (spec : RegionSpec) → Spans bytes at next (region_fields spec) → region_from bytes at ≡ Ok (spec, next)
    unfolding region_from
    region_is at next spec spans =
        let a = spans.all in
        let flags = a.1.1.1.1.1.0 in
        let b = flags.reads in
        let tell = flags_tell b.0 spec.sanitize spec.shareable b.2 in
        rw (
          number_is w64 wide_64 bytes at spec.decode_units a.0,
          number_is w64 wide_64 bytes _ spec.length a.1.0,
          number_is w64 wide_64 bytes _ spec.block a.1.1.0,
          number_is w64 wide_64 bytes _ spec.sizes a.1.1.1.0,
          number_is w32 wide_32 bytes _ spec.handle a.1.1.1.1.0,
          number_is w8 wide_8 bytes _ b.0 (byte_stands _ _ b.0 flags b.1),
          skip_is 3 bytes _ a.1.1.1.1.1.1.0.within,
        )
        (λ i. Ok (
          record {
            decode_units = spec.decode_units;
            length = spec.length;
            block = spec.block;
            sizes = spec.sizes;
            handle = spec.handle;
            sanitize = tell.0 i;
            shareable = tell.1 i;
          },
          a.1.1.1.1.1.1.1 i,
        ))

    -- ---- what stands before the regions
    pub version_sound : (at : ℕ) (x : ℕ × ℕ) → version_from bytes at ≡ Ok x → Spans bytes at x.1 (Number w16 x.0 ∷ []) × (bad_version x.0 ≡ false)
    unfolding version_from
    version_sound at x is =
        let b = bound (number_from w16 bytes at) _ x is in
        let p = passed (bad_version b.value.0) (ScriptFault.BadVersion b.value.0) b.value x b.done in (
          subst (λ (y : ℕ × ℕ). Spans bytes at y.1 (Number w16 y.0 ∷ [])) p.1 (number_sound w16 wide_16 bytes at b.value small b.begun),
          subst (λ (y : ℕ × ℕ). bad_version y.0 ≡ false) p.1 p.0,
        )

    pub version_is : (at n : ℕ) → Stands bytes at (Number w16 n) → bad_version n ≡ false → version_from bytes at ≡ Ok (n, at + 2)
    unfolding version_from
    version_is at n stands good = rw (number_is w16 wide_16 bytes at n stands, good) refl

    pub counts_sound : (at : ℕ) (x : (ℕ × ℕ) × ℕ) → counts_from bytes at ≡ Ok x → Spans bytes at x.1 (Number w8 x.0.0 ∷ Number w8 x.0.1 ∷ [])
    unfolding counts_from
    counts_sound at x is =
        let hosts = bound (number_from w8 bytes at) _ x is in
        let regions = bound (number_from w8 bytes hosts.value.1) _ x hosts.done in
        let p = passed (bad_count hosts.value.0 regions.value.0) (ScriptFault.BadConfig ConfigFault.Count) ((hosts.value.0, regions.value.0), regions.value.1) x regions.done in
        subst (λ (y : (ℕ × ℕ) × ℕ). Spans bytes at y.1 (Number w8 y.0.0 ∷ Number w8 y.0.1 ∷ [])) p.1
        (spans_then (number_sound w8 wide_8 bytes at hosts.value small hosts.begun) (number_sound w8 wide_8 bytes hosts.value.1 regions.value small regions.begun))

    pub counts_is : (at hosts regions : ℕ) → Stands bytes at (Number w8 hosts) → Stands bytes (at + 1) (Number w8 regions) → bad_count hosts regions ≡ false → counts_from bytes at ≡ Ok ((hosts, regions), at + 1 + 1)
    unfolding counts_from
    counts_is at hosts regions a b good = rw (number_is w8 wide_8 bytes at hosts a, number_is w8 wide_8 bytes (at + 1) regions b, good) refl

    told_lanes_sound : (at : ℕ) (x : ℕ × ℕ) → told_lanes_from bytes at ≡ Ok x → Spans bytes at x.1 (Number w8 x.0 ∷ []) × (bad_lanes x.0 ≡ false)
    unfolding told_lanes_from
    told_lanes_sound at x is =
        let b = bound (number_from w8 bytes at) _ x is in
        let p = passed (bad_lanes b.value.0) (ScriptFault.BadLanes b.value.0) b.value x b.done in (
          subst (λ (y : ℕ × ℕ). Spans bytes at y.1 (Number w8 y.0 ∷ [])) p.1 (number_sound w8 wide_8 bytes at b.value small b.begun),
          subst (λ (y : ℕ × ℕ). bad_lanes y.0 ≡ false) p.1 p.0,
        )

    -- version 2 tells its lanes, and version 1 has one
    lanes_by_test : (version : ℕ) (two : Bool) (at : ℕ) (x : ℕ × ℕ) → (version == 2) ≡ two → cond two (lanes_and_reserved_from bytes at) (one_lane_from bytes at) ≡ Ok x → Spans bytes at x.1 (cond two (Number w8 x.0 ∷ Reserved 5 ∷ []) (Reserved 6 ∷ [])) × (cond two (bad_lanes x.0) (not (x.0 == 1)) ≡ false)
    unfolding lanes_and_reserved_from one_lane_from
    lanes_by_test version true at x e is =
        let told = bound (told_lanes_from bytes at) _ x is in
        let next = bound (skip 5 bytes told.value.1) _ x told.done in
        let sound = told_lanes_sound at told.value told.begun in (
          subst (λ (y : ℕ × ℕ). Spans bytes at y.1 (Number w8 y.0 ∷ Reserved 5 ∷ [])) (ok_is _ x next.done) (spans_then sound.0 (skip_sound 5 bytes told.value.1 next.value next.begun)),
          subst (λ (y : ℕ × ℕ). bad_lanes y.0 ≡ false) (ok_is _ x next.done) sound.1,
        )
    lanes_by_test version false at x e is =
        let next = bound (skip 6 bytes at) _ x is in (
          subst (λ (y : ℕ × ℕ). Spans bytes at y.1 (Reserved 6 ∷ [])) (ok_is _ x next.done) (skip_sound 6 bytes at next.value next.begun),
          subst (λ (y : ℕ × ℕ). not (y.0 == 1) ≡ false) (ok_is _ x next.done) refl,
        )

    lanes_good : (version lanes : ℕ) → bad_version version ≡ false → cond (version == 2) (bad_lanes lanes) (not (lanes == 1)) ≡ false → are_lanes version lanes ≡ true
    lanes_good version lanes known good = grind (arith, nat_tests)

    pub lanes_sound : (version at : ℕ) (x : ℕ × ℕ) → bad_version version ≡ false → lanes_from version bytes at ≡ Ok x → Spans bytes at x.1 (lanes_fields version x.0) × (are_lanes version x.0 ≡ true)
    lanes_sound version at x known is =
        let p = lanes_by_test version (version == 2) at x refl is in
        (p.0, lanes_good version x.0 known p.1)

    lanes_is_by_test : (version lanes : ℕ) (two : Bool) (at next : ℕ) → (version == 2) ≡ two → are_lanes version lanes ≡ true → Spans bytes at next (cond two (Number w8 lanes ∷ Reserved 5 ∷ []) (Reserved 6 ∷ [])) → cond two (lanes_and_reserved_from bytes at) (one_lane_from bytes at) ≡ Ok (lanes, next)
    unfolding lanes_and_reserved_from one_lane_from told_lanes_from
    lanes_is_by_test version lanes true at next e good spans =
        let fine : bad_lanes lanes ≡ false = grind (arith, nat_tests) in
        rw (number_is w8 wide_8 bytes at lanes spans.all.0, fine, skip_is 5 bytes (at + 1) spans.all.1.0.within) (ap (λ place. Ok (lanes, place)) spans.all.1.1)
    lanes_is_by_test version lanes false at next e good spans =
        let one : lanes ≡ 1 = grind (arith, nat_tests) in
        rw (skip_is 6 bytes at spans.all.0.within) (λ i. Ok (sym one i, spans.all.1 i))

    pub lanes_is : (version lanes at next : ℕ) → are_lanes version lanes ≡ true → Spans bytes at next (lanes_fields version lanes) → lanes_from version bytes at ≡ Ok (lanes, next)
    lanes_is version lanes at next good spans = lanes_is_by_test version lanes (version == 2) at next refl good spans

    -- ---- the configuration
    config_sound_of : (config c : Configuration) (fault : Option ConfigFault) → sound_config config fault ≡ Ok c → (fault ≡ None) × (config ≡ c)
    config_sound_of config c None is = (refl, ok_is config c is)
    config_sound_of config c (Some fault) is = cc

    abbrev base_field : ℕ → Field
    base_field base = Number w64 base

    pub record ConfigStands (at hosts count : ℕ) (x : Configuration × ℕ) : Type 0 where
      pub spans : Spans bytes at x.1 (flat_map region_fields x.0.regions ++ map base_field x.0.bases)
      pub hosts_are : x.0.hosts ≡ hosts
      pub regions_are : length x.0.regions ≡ count
      pub based : length x.0.bases ≡ hosts * count
      pub faultless : config_fault x.0 ≡ None

    pub config_sound : (hosts count at : ℕ) (x : Configuration × ℕ) → config_from hosts count bytes at ≡ Ok x → ConfigStands at hosts count x
    unfolding config_from
    config_sound hosts count at x is =
        let regions = bound (many_from region_from count bytes at) _ x is in
        let bases = bound (many_from (number_from w64) (hosts * count) bytes regions.value.1) _ x regions.done in
        let config = bound (config_of hosts regions.value.0 bases.value.0) _ x bases.done in
        let made : Configuration = record { hosts = hosts; regions = regions.value.0; bases = bases.value.0 } in
        let sound = config_sound_of made config.value (config_fault made) config.begun in
        let rs = many_sound bytes region_from region_fields region_sound count at regions.value regions.begun in
        let bs = many_sound bytes (number_from w64) (λ base. base_field base ∷ []) (λ place y. number_sound w64 wide_64 bytes place y small) (hosts * count) regions.value.1 bases.value bases.begun in
        subst (λ (y : Configuration × ℕ). ConfigStands at hosts count y) ((λ i. (sound.1 i, bases.value.1)) ∙ ok_is _ x config.done)
        (record {
          spans = spans_then rs.1 (subst (λ fields. Spans bytes regions.value.1 bases.value.1 fields) (flat_map_single base_field bases.value.0) bs.1);
          hosts_are = refl;
          regions_are = rs.0;
          based = bs.0;
          faultless = sound.0;
        })

    pub config_is : (c : Configuration) (at next : ℕ) → config_fault c ≡ None → length c.bases ≡ c.hosts * length c.regions → Spans bytes at next (flat_map region_fields c.regions ++ map base_field c.bases) → config_from c.hosts (length c.regions) bytes at ≡ Ok (c, next)
    unfolding config_from
    config_is c at next faultless based spans =
        let p = parted bytes at next (flat_map region_fields c.regions) (map base_field c.bases) spans in
        let bs : Spans bytes p.mid next (flat_map (λ base. base_field base ∷ []) c.bases) = subst (λ fields. Spans bytes p.mid next fields) (sym (flat_map_single base_field c.bases)) p.back in
        let bases : many_from (number_from w64) (c.hosts * length c.regions) bytes p.mid ≡ Ok (c.bases, next) =
        ap (λ n. many_from (number_from w64) n bytes p.mid) (sym based)
        ∙ many_is bytes (number_from w64) (λ base. base_field base ∷ []) (λ place after base one. number_is w64 wide_64 bytes place base one.all.0 ∙ ap (λ y. Ok (base, y)) one.all.1) p.mid next c.bases bs in
        rw (many_is bytes region_from region_fields region_is at p.mid c.regions p.front, bases, faultless) refl

    -- ---- the whole head
    -- a script with this head
    abbrev pub with_head : Head → List Line → Script
    with_head head lines = record { version = head.version; lanes = head.lanes; config = head.config; lines = lines }

    pub record HeadStands (at : ℕ) (x : Head × ℕ) : Type 0 where
      pub spans : (lines : List Line) → Spans bytes at x.1 (script_head (with_head x.0 lines))
      pub lanes_are : are_lanes x.0.version x.0.lanes ≡ true
      pub faultless : config_fault x.0.config ≡ None
      pub based : length x.0.config.bases ≡ x.0.config.hosts * length x.0.config.regions

    pub head_sound : (at : ℕ) (x : Head × ℕ) → head_from bytes at ≡ Ok x → HeadStands at x
    unfolding head_from
    head_sound at x is =
        let begun = bound (magic_from bytes at) _ x is in
        let version = bound (version_from bytes begun.value) _ x begun.done in
        let reserved = bound (skip 2 bytes version.value.1) _ x version.done in
        let counts = bound (counts_from bytes reserved.value) _ x reserved.done in
        let lanes = bound (lanes_from version.value.0 bytes counts.value.1) _ x counts.done in
        let config = bound (config_from counts.value.0.0 counts.value.0.1 bytes lanes.value.1) _ x lanes.done in
        let versions = version_sound begun.value version.value version.begun in
        let told = lanes_sound version.value.0 counts.value.1 lanes.value versions.1 lanes.begun in
        let made = config_sound counts.value.0.0 counts.value.0.1 lanes.value.1 config.value config.begun in
        let parts = parted bytes lanes.value.1 config.value.1 (flat_map region_fields config.value.0.regions) (map base_field config.value.0.bases) made.spans in
        let counted : Spans bytes reserved.value counts.value.1 (Number w8 config.value.0.hosts ∷ Number w8 (length config.value.0.regions) ∷ []) =
        subst (λ n. Spans bytes reserved.value counts.value.1 (Number w8 n ∷ Number w8 (length config.value.0.regions) ∷ [])) (sym made.hosts_are)
        (subst (λ n. Spans bytes reserved.value counts.value.1 (Number w8 counts.value.0.0 ∷ Number w8 n ∷ [])) (sym made.regions_are) (counts_sound reserved.value counts.value counts.begun)) in
        subst (λ (y : Head × ℕ). HeadStands at y) (ok_is _ x config.done)
        (record {
          spans = λ lines.
              spans_then
              (spans_then
              (spans_then (magic_sound at begun.value begun.begun)
              (spans_then versions.0
              (spans_then (skip_sound 2 bytes version.value.1 reserved.value reserved.begun)
              (spans_then counted told.0))))
              parts.front)
              parts.back;
          lanes_are = told.1;
          faultless = made.faultless;
          based = made.based ∙ (λ i. sym made.hosts_are i * sym made.regions_are i);
        })

    pub head_is : (s : Script) (at next : ℕ) → IsScript s → Spans bytes at next (script_head s) → head_from bytes at ≡ Ok (record { version = s.version; lanes = s.lanes; config = s.config }, next)
    unfolding head_from
    head_is s at next script spans =
        let p = parted bytes at next (start_fields s ++ flat_map region_fields s.config.regions) (map base_field s.config.bases) spans in
        let q = parted bytes at p.mid (start_fields s) (flat_map region_fields s.config.regions) p.front in
        let a = q.front.all in
        rw (
          magic_is at a.0,
          version_is (at + 4) s.version a.1.0 (laned s.version s.lanes script.versioned).known,
          skip_is 2 bytes (at + 4 + 2) a.1.1.0.within,
          counts_is (at + 4 + 2 + 2) s.config.hosts (length s.config.regions) a.1.1.1.0 a.1.1.1.1.0 (count_good s.config script.configured),
          lanes_is s.version s.lanes (at + 4 + 2 + 2 + 1 + 1) q.mid script.versioned (record { all = a.1.1.1.1.1 }),
          config_is s.config q.mid next script.configured script.based (spans_then q.back p.back),
        ) refl
