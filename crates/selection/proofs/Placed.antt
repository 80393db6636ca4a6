-- An extent that is not misplaced in a region is made of granules of it.
use Rattle.std.proofs.Common.{◌≡◌, ℕ, zero, suc, List, ◌∷◌, ◌+◌, ◌-◌, ◌*◌, ◌/◌, ◌%◌, ◌<◌, ◌≤◌, Bool, true, false, eqb, leb, ltb, length, Some, None, refl, ap, sym, subst, ◌∙◌, inl, inr, arith, div-add-mod'}
use Rattle.std.proofs.Math.Nat.{mul-mod_left, mul_assoc}
use Rattle.std.proofs.lemmas.{Bool.and_parts, Bool.cases_Bool, Bool.eqb-false, Bool.eqb-true, Bool.leb-true, Bool.ltb-true, Option.none-some}
use Rattle.std.specs.Prelude.{All, ◌&&◌}
use Rattle.extent_list.specs.{Listing.is_aligned, Listing.lies_in_region, Listing.misplaced, dcd_codes.specs.dcd_base.specs.declared.capacity.Extent.Extent}
use Rattle.extent_list.specs.dcd_codes.specs.{dcd_base.specs.declared.ids.HostId.HostId, dcd_base.specs.declared.media.Run.Run, declared.rules.Rule.Rule}
use Rattle.extent_list.specs.media_map.proofs.{PlaceLemmas.has, RunLemmas.IsGranular, RunLemmas.granular_from, RunLemmas.is_run, RunLemmas.region_at_is}
use Rattle.extent_list.specs.media_map.specs.{Places.IsRun, Places.is_granular, Places.region_at, Places.run_in, Places.run_of, region_config.proofs.Faultless.granules_rise}
use Rattle.extent_list.specs.media_map.specs.region_config.{proofs.GranuleLemmas.of_region, specs.Configurations.Configuration}
use Rattle.extent_list.specs.media_map.specs.region_config.specs.Granules.{base_of, first_granule, granule_size, granule_total, region_of, region_spec}
use Rattle.extent_list.specs.media_map.specs.region_config.specs.Soundness.{IsSound}

-- The extent lies in the region, and blocks of it begin and end where the extent does.
pub record IsPlaced (c : Configuration) (h : HostId) (r : ℕ) (x : Extent) : Type 0 where
  pub some : 0 < x.length
  pub known : r < length c.regions
  pub from : base_of c h r ≤ x.start
  pub within : x.start + x.length ≤ base_of c h r + (region_spec c r).length
  pub begins : (x.start - base_of c h r) % (region_spec c r).block ≡ 0
  pub ends : x.length % (region_spec c r).block ≡ 0

placed_parts : (c : Configuration) (h : HostId) (r : ℕ) (x : Extent) → eqb x.length 0 ≡ false → lies_in_region c h r x ≡ true → is_aligned c h r x ≡ true → IsPlaced c h r x
placed_parts c h r x some lies aligned =
    let known : Bool = ltb r (length c.regions) in
    let from : Bool = leb (base_of c h r) x.start in
    let p1 = and_parts (known && from) (leb (x.start + x.length) (base_of c h r + (region_spec c r).length)) lies in
    let p0 = and_parts known from p1.0 in
    let a = and_parts (eqb ((x.start - base_of c h r) % (region_spec c r).block) 0) (eqb (x.length % (region_spec c r).block) 0) aligned in
    let nonzero = eqb-false x.length 0 some in
    record {
      some = omega (arith, nonzero);
      known = ltb-true _ _ p0.0;
      from = leb-true _ _ p0.1;
      within = leb-true _ _ p1.1;
      begins = eqb-true _ _ a.0;
      ends = eqb-true _ _ a.1;
    }

pub placed : (c : Configuration) (h : HostId) (r i : ℕ) (x : Extent) → misplaced c h r i x ≡ None → IsPlaced c h r x
placed c h r i x none = elim (cases_Bool (eqb x.length 0)) [
  | inl zero_long ↦ absurd (none-some (Rule.ZeroLength i) (sym (rw zero_long at none)))
  | inr some ↦ elim (cases_Bool (lies_in_region c h r x)) [
    | inr outside ↦ absurd (none-some (Rule.OutsideRegion i) (sym (rw (some, outside) at none)))
    | inl lies ↦ elim (cases_Bool (is_aligned c h r x)) [
      | inr unaligned ↦ absurd (none-some (Rule.Unaligned i) (sym (rw (some, lies, unaligned) at none)))
      | inl aligned ↦ placed_parts c h r x some lies aligned
    ]
  ]
]

-- what is made of blocks is made of their granules
pub of_parts : (n block size : ℕ) → block % size ≡ 0 → n % block ≡ 0 → n % size ≡ 0
of_parts n block size whole ends =
    let blocks : n ≡ n / block * block = omega (arith, div-add-mod' n block, ends) in
    let granules : block ≡ block / size * size = omega (arith, div-add-mod' block size, whole) in
    let product : n ≡ n / block * (block / size) * size = blocks ∙ ap (λ m. n / block * m) granules ∙ sym (mul_assoc (n / block) (block / size) size) in
    ap (λ m. m % size) product ∙ mul-mod_left (n / block * (block / size)) size

module _ (c : Configuration) (h : HostId) (s : IsSound c) (host : h < c.hosts) (r : ℕ) (x : Extent) (p : IsPlaced c h r x) where
  pub its_region : region_at c h x.start ≡ r
  its_region = region_at_is c h s host x.start r p.known (has c h x.start r p.from (omega (arith, p.some, p.within)))

  pub granular : IsGranular c h x.start x.length r
  granular = let region = s.each r p.known in record {
    some = p.some;
    from = p.from;
    within = p.within;
    begins = of_parts (x.start - base_of c h r) (region_spec c r).block (granule_size c r) region.whole_block p.begins;
    ends = of_parts x.length (region_spec c r).block (granule_size c r) region.whole_block p.ends;
  }

  pub is_made_of_granules : is_granular c h x.start x.length ≡ true
  is_made_of_granules = granular_from c h x.start x.length r its_region granular

  -- its run is one of the region, and has the granules of its bytes
  pub its_run : run_of c h x ≡ record { first = first_granule c r + (x.start - base_of c h r) / granule_size c r; count = x.length / granule_size c r }
  its_run = rw its_region refl

  pub run_is_run : IsRun c (run_of c h x)
  run_is_run = subst (λ run. IsRun c run) (sym its_run) (is_run c h s host x.start x.length r p.known granular)

  pub starts_at : (x.start - base_of c h r) / granule_size c r * granule_size c r ≡ x.start - base_of c h r
  starts_at = omega (arith, div-add-mod' (x.start - base_of c h r) (granule_size c r), granular.begins)

  pub bytes_of : x.length / granule_size c r * granule_size c r ≡ x.length
  bytes_of = omega (arith, div-add-mod' x.length (granule_size c r), granular.ends)

-- the run of a range of granules
pub granular_run : (c : Configuration) (h : HostId) (x : Extent) → is_granular c h x.start x.length ≡ true → run_in c h x.start x.length ≡ Some (run_of c h x)
granular_run c h x holds = rw holds refl

-- one more that has what all the others have
pub all_cons : {X : Type 0} (P : X → Type 0) (x : X) (xs : List X) → P x → All P xs → All P (x ∷ xs)
all_cons P x xs first rest zero d below = first
all_cons P x xs first rest (suc k) d below = rest k d (omega (arith, below))

-- a run ends with the last granule at most
pub run_below : (c : Configuration) (run : Run) → IsRun c run → run.first + run.count ≤ granule_total c
run_below c run is =
    let region = of_region c run.first is.known in
    omega (arith, is.within, granules_rise c (suc (region_of c run.first)) (length c.regions) region.known)
