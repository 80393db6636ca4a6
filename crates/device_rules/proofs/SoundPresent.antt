-- The configuration with the present blocks is sound where each region supports its present block.
use Rattle.std.proofs.Common.{◌≡◌, ℕ, suc, ◌+◌, ◌*◌, ◌/◌, ◌%◌, ◌^◌, ◌<◌, ◌≤◌, true, length, refl, ap, sym, subst, ◌∙◌, inl, inr, arith, div-add-mod', mul-le-mul_right, zero-mul}
use Rattle.std.{specs.Prelude.IsTrue, specs.Int.w64, specs.Int.trailing_zeros, proofs.lemmas.Bool.cases_lt}
use Rattle.cci_codec.specs.dcd_base.specs.declared.ids.HostId.{HostId}
use Rattle.extent_list.specs.media_map.specs.region_config.{proofs.PresentBlocks.region_spec-with_blocks, specs.Configurations.Configuration}
use Rattle.extent_list.specs.media_map.specs.region_config.specs.Granules.{first_granule, granule_size, granule_total, is_supported, region_spec, sizes_in, with_blocks}
use Rattle.extent_list.specs.media_map.specs.region_config.specs.{Setups.decode_end, Setups.unit, Soundness.IsSound, Soundness.IsSoundRegion, Soundness.IsSoundSeat}
use Rattle.extent_list.specs.media_map.specs.region_config.specs.declared.region_spec.RegionSpec.{RegionSpec}
use Rattle.device_rules.proofs.Homes.{base_same, blind, first_same, regions_same, supported_some, supported_whole}

-- which sizes a region supports does not hang on its block
sizes_stay : (spec : RegionSpec) (block size : ℕ) → is_supported (record spec { block = block }) size ≡ is_supported spec size
unfolding sizes_in
sizes_stay spec block size = refl

-- what is made of granules has one at least
granule_fits : (size granule : ℕ) → 0 < size → size % granule ≡ 0 → granule ≤ size
granule_fits size granule some whole =
    let made : size ≡ size / granule * granule = omega (arith, div-add-mod' size granule, whole) in
    elim (cases_lt 0 (size / granule)) [
      | inl several ↦ omega (arith, made, mul-le-mul_right granule several)
      | inr none ↦ absurd (omega (arith, made, mul-le-mul_right granule none, zero-mul granule, some))
    ]

module _ (c : Configuration) (b : ℕ → ℕ) (sound : IsSound c) (supported : (r : ℕ) → r < length c.regions → is_supported (region_spec c r) (b r) ≡ true) where
  abbrev now : Configuration
  now = with_blocks c b

  known : (r : ℕ) → r < length now.regions → r < length c.regions
  known r less = subst (λ n. r < n) (regions_same c b) less

  region_sound : (r : ℕ) → r < length c.regions → IsSoundRegion now r
  region_sound r less =
      let is : region_spec (with_blocks c b) r ≡ record (region_spec c r) { block = b r } = region_spec-with_blocks c b r less in
      let e : IsSoundRegion c r = sound.each r less in
      let whole : b r % granule_size c r ≡ 0 = supported_whole c r (b r) (supported r less) in
      record {
        sizes = subst (λ (spec : RegionSpec). 0 < spec.sizes) (sym is) e.sizes;
        exponent = e.exponent;
        from = e.from;
        to = e.to;
        granule = subst (λ (spec : RegionSpec). 2 ^ trailing_zeros w64 spec.sizes ≡ 2 ^ e.exponent) (sym is) e.granule;
        some = subst (λ (spec : RegionSpec). 0 < spec.length) (sym is) e.some;
        decoded = subst (λ (spec : RegionSpec). spec.length ≤ spec.decode_units * unit) (sym is) e.decoded;
        whole = subst (λ (spec : RegionSpec). spec.length % 2 ^ trailing_zeros w64 spec.sizes ≡ 0) (sym is) e.whole;
        supported = subst (λ (spec : RegionSpec). IsTrue (is_supported spec spec.block)) (sym is) (sizes_stay (region_spec c r) (b r) (b r) ∙ supported r less);
        block = subst (λ (spec : RegionSpec). 2 ^ trailing_zeros w64 spec.sizes ≤ spec.block) (sym is) (granule_fits (b r) (granule_size c r) (supported_some c r (b r) (supported r less)) whole);
        whole_block = subst (λ (spec : RegionSpec). spec.block % 2 ^ trailing_zeros w64 spec.sizes ≡ 0) (sym is) whole;
      }

  ends_same : (h : HostId) (r : ℕ) → decode_end now h r ≡ decode_end c h r
  ends_same h r = λ i. base_same c b h r i + blind c b (λ (spec : RegionSpec). spec.decode_units) (λ _ _. refl) r i * unit

  total_same : granule_total now ≡ granule_total c
  total_same = ap (first_granule now) (regions_same c b) ∙ first_same c b (length c.regions)

  pub present_sound : IsSound (with_blocks c b)
  present_sound = record {
    some_host = sound.some_host;
    hosts = sound.hosts;
    some_region = subst (λ n. 0 < n) (sym (regions_same c b)) sound.some_region;
    regions = subst (λ n. n ≤ 8) (sym (regions_same c b)) sound.regions;
    each = λ r less. region_sound r (known r less);
    seats = λ h r host less. let e : IsSoundSeat c h r = sound.seats h r host (known r less) in record {
      aligned = ap (λ n. n % unit) (base_same c b h r) ∙ e.aligned;
      ends = subst (λ n. n ≤ 2 ^ 52) (sym (ends_same h r)) e.ends;
    };
    rising = λ h r host less. omega (arith, ends_same h r, base_same c b h (suc r), sound.rising h r host (known (suc r) less));
    some_granule = subst (λ n. 0 < n) (sym total_same) sound.some_granule;
    granules = subst (λ n. n ≤ 4096) (sym total_same) sound.granules;
  }
