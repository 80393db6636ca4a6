-- Another supported block leaves a configuration without fault.
use Rattle.std.proofs.Common.{◌≡◌, ◌≢◌, ℕ, zero, suc, ◌/◌, ◌^◌, ◌<◌, true, false, not, length, None, refl, ap, sym, ◌∙◌, subst, inl, inr}
use Rattle.std.proofs.lemmas.{Bool.cases_eq, Bool.or_parts, Bool.or_from, Bool.not_from_true, List.get_or-set_other, List.get_or-set_same, List.length-set}
use Rattle.std.specs.Int.{w64, trailing_zeros}
use Rattle.region_config.{proofs.Faultless.faultless, proofs.Faultless.no_fault_in, specs.Blocks.with_block, specs.Configurations.Configuration}
use Rattle.region_config.specs.Granules.{first_granule, region_granules, is_supported, no_region, region_spec, sizes_in}
use Rattle.region_config.specs.{Setups.bad_base, Setups.bad_length, Setups.bad_order, Setups.bad_sizes, Setups.config_fault, Setups.largest_size, declared.region_spec.RegionSpec.RegionSpec}

-- the tests of a region alone, at another block
sizes_pass : (spec : RegionSpec) (size : ℕ) → bad_sizes spec ≡ false → is_supported spec size ≡ true → bad_sizes (record spec { block = size }) ≡ false
unfolding sizes_in
sizes_pass spec size good supported = or_from _ _ (or_parts _ (not (is_supported spec spec.block)) good).0 (not_from_true _ supported)

length_passes : (spec : RegionSpec) (size : ℕ) → bad_length (record spec { block = size }) ≡ bad_length spec
unfolding largest_size sizes_in
length_passes spec size = refl

module _ (c : Configuration) (r size : ℕ) (known : r < length c.regions) where
  here : region_spec (with_block c r size) r ≡ record (region_spec c r) { block = size }
  here = get_or-set_same c.regions r (record (region_spec c r) { block = size }) no_region known

  elsewhere : (k : ℕ) → k ≢ r → region_spec (with_block c r size) k ≡ region_spec c k
  elsewhere k other = get_or-set_other c.regions r k (record (region_spec c r) { block = size }) no_region other

  -- what looks at no block is as it was
  same : {A : Type 0} (of : RegionSpec → A) → ((spec : RegionSpec) (b : ℕ) → of (record spec { block = b }) ≡ of spec) → (k : ℕ) → of (region_spec (with_block c r size) k) ≡ of (region_spec c k)
  same of blind k = elim (cases_eq k r) [
    | inl it ↦ subst (λ j. of (region_spec (with_block c r size) j) ≡ of (region_spec c j)) (sym it) (ap of here ∙ blind (region_spec c r) size)
    | inr other ↦ ap of (elsewhere k other)
  ]

  pub regions_stay : length (with_block c r size).regions ≡ length c.regions
  regions_stay = length-set c.regions r (record (region_spec c r) { block = size })

  base_test : (h k : ℕ) → bad_base (with_block c r size) h k ≡ bad_base c h k
  base_test h k = rw (regions_stay, same (λ spec. spec.decode_units) (λ _ _. refl) k) refl

  order_test : (h k : ℕ) → bad_order (with_block c r size) h k ≡ bad_order c h k
  order_test h zero = refl
  order_test h (suc k) = rw (regions_stay, same (λ spec. spec.decode_units) (λ _ _. refl) k) refl

  pub granules_in_stay : (k : ℕ) → region_granules (with_block c r size) k ≡ region_granules c k
  granules_in_stay k = same (λ spec. spec.length / 2 ^ trailing_zeros w64 spec.sizes) (λ _ _. refl) k

  pub granules_stay : (k : ℕ) → first_granule (with_block c r size) k ≡ first_granule c k
  granules_stay zero = refl
  granules_stay (suc k) = rw (granules_stay k, granules_in_stay k) refl

  pub still_faultless : config_fault c ≡ None → is_supported (region_spec c r) size ≡ true → config_fault (with_block c r size) ≡ None
  still_faultless none supported =
      let f = faultless c none in
      let d : Configuration = with_block c r size in
      no_fault_in d (record {
        count = rw regions_stay f.count;
        based = λ h k host region. base_test h k ∙ f.based h k host (rw regions_stay at region);
        sized = λ k region. elim (cases_eq k r) [
          | inl it ↦ subst (λ j. bad_sizes (region_spec d j) ≡ false) (sym it) (ap bad_sizes here ∙ sizes_pass (region_spec c r) size (f.sized r known) supported)
          | inr other ↦ ap bad_sizes (elsewhere k other) ∙ f.sized k (rw regions_stay at region)
        ];
        long = λ k region. same bad_length length_passes k ∙ f.long k (rw regions_stay at region);
        ordered = λ h k host region. order_test h k ∙ f.ordered h k host (rw regions_stay at region);
        total = rw (regions_stay, granules_stay (length c.regions)) f.total;
      })
