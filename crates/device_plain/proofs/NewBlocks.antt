-- What a new block size makes of a device with one host alone.
use Rattle.std.proofs.Common.{◌≡◌, ℕ, ◌<◌, ◌≤◌, Bool, true, false, ◌&&◌, length, Some, None, inl, inr, refl, sym, ap, ◌∙◌, arith}
use Rattle.std.proofs.lemmas.{Bool.cases_Bool, Bool.eq-eqb, Bool.le-ltb, Bool.lt-ltb, List.length-map, List.FromFn.length-enumerate_from}
use Rattle.std.specs.{List.enumerate_from, Prelude.nat_lt, Prelude.◌==◌, Prelude.if◌then◌else◌}
use Rattle.dcd_base.specs.{Words.flag_of, declared.ids.HostId.HostId}
use Rattle.control_core.specs.device_rules.specs.Views.{View}
use Rattle.region_config.{proofs.PresentBlocks.region_spec-with_blocks, proofs.PresentBlocks.with_block-with_blocks, specs.Blocks.block_fault, specs.Blocks.with_block}
use Rattle.region_config.specs.{Configurations.Configuration, Granules.is_supported, Granules.region_spec, Granules.sizes_in, declared.faults.BlockFault.BlockFault}
use Rattle.region_config.specs.declared.region_spec.RegionSpec.{RegionSpec}
use Rattle.device_plain.specs.{Alone.IsAlone, Telling.resized, declared.alone.Alone.Alone}
use Rattle.isolation_laws.specs.Solo.{block_set, with_log_records}

abbrev pub with_size : ℕ → ℕ → View → View
with_size r size v = record v { block = λ s. if s == r then size else v.block s }

-- ---- which sizes are set

sizes_stay : (spec : RegionSpec) (block size : ℕ) → is_supported (record spec { block = block }) size ≡ is_supported spec size
unfolding sizes_in
sizes_stay spec block size = refl

pub set_supported : (spec : RegionSpec) (size : ℕ) (sanitize : Bool) → sanitize ≡ spec.sanitize → block_fault spec size sanitize 0 ≡ None → is_supported spec size ≡ true
set_supported spec size sanitize same none = elim (cases_Bool (is_supported spec size)) [
  | inl is ↦ is
  | inr not ↦ (let broken = rw not at none in absurd (cc))
]

pub refused_unsupported : (spec : RegionSpec) (size : ℕ) (sanitize : Bool) (fault : BlockFault) → sanitize ≡ spec.sanitize → block_fault spec size sanitize 0 ≡ Some fault → is_supported spec size ≡ false
refused_unsupported spec size sanitize fault same some = elim (cases_Bool (is_supported spec size)) [
  | inr not ↦ not
  | inl is ↦ (let flags : (flag_of sanitize == flag_of spec.sanitize) ≡ true = eq-eqb (flag_of sanitize) (flag_of spec.sanitize) (ap flag_of same) in
      let none = rw (is, flags) at some in absurd (cc))
]

-- ---- what is kept

module _ (c : Configuration) (h : HostId) (v : View) (word : ℕ → ℕ) (old : Alone) (r size : ℕ) (alone : IsAlone c h v word old) where
  long : length old.present.regions ≡ length c.regions
  long = ap (λ (d : Configuration). length d.regions) alone.present_is
      ∙ length-map (enumerate_from 0 c.regions) (λ (spec : ℕ × RegionSpec). record spec.1 { block = v.block spec.0 })
      ∙ length-enumerate_from 0 c.regions

  supported : r < length old.present.regions → is_supported (region_spec old.present r) size ≡ is_supported (region_spec c r) size
  supported known =
      let within : r < length c.regions = omega (arith, known, long) in
      ap (λ (d : Configuration). is_supported (region_spec d r) size) alone.present_is
      ∙ ap (λ (spec : RegionSpec). is_supported spec size) (region_spec-with_blocks c v.block r within)
      ∙ sizes_stay (region_spec c r) (v.block r) size

  by_test : (b : Bool) → (nat_lt r (length c.regions) && is_supported (region_spec c r) size) ≡ b →
      block_set c h v r size ≡ (if b then with_log_records (with_size r size v) (resized h r v) else v)
  by_test b is = ap (λ t. if t then with_log_records (with_size r size v) (resized h r v) else v) is

  -- no such region, or no such size
  pub past_regions : length old.present.regions ≤ r → block_set c h v r size ≡ v
  past_regions past = let none : nat_lt r (length c.regions) ≡ false = le-ltb r (length c.regions) (omega (arith, past, long)) in by_test false (ap (λ b. b && is_supported (region_spec c r) size) none)

  pub unsupported : r < length old.present.regions → is_supported (region_spec old.present r) size ≡ false → block_set c h v r size ≡ v
  unsupported known not = let here : nat_lt r (length c.regions) ≡ true = lt-ltb r (length c.regions) (omega (arith, known, long)) in
      by_test false (λ i. here i && (sym (supported known) ∙ not) i)

  pub is_set : r < length old.present.regions → is_supported (region_spec old.present r) size ≡ true →
      block_set c h v r size ≡ with_log_records (with_size r size v) (resized h r v)
  is_set known is = let here : nat_lt r (length c.regions) ≡ true = lt-ltb r (length c.regions) (omega (arith, known, long)) in
      by_test true (λ i. here i && (sym (supported known) ∙ is) i)

  pub keeps_size : r < length old.present.regions → (present : Configuration) → present ≡ with_block old.present r size → IsAlone c h (with_size r size v) word (record old { present = present })
  keeps_size known present set = record {
    present_is =
        set ∙ ap (λ (d : Configuration). with_block d r size) alone.present_is
        ∙ with_block-with_blocks c v.block r size (omega (arith, known, long));
    lists_are = alone.lists_are;
    few = alone.few;
    log_is = alone.log_is;
    words_are = alone.words_are;
  }
