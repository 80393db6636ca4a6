-- The configuration with the present blocks differs in the blocks alone.
use Rattle.std.proofs.Common.{◌≡◌, ◌≢◌, ℕ, zero, suc, ◌+◌, ◌/◌, ◌<◌, ◌≤◌, List, [], ◌∷◌, length, get_or, set, refl, sym, ap, ◌∙◌, subst, arith, add-zero, inl, inr}
use Rattle.std.proofs.lemmas.{Bool.cases_eq, Bool.cases_lt, Bool.eq-eqb, Bool.ne_eqb, List.ext_get_or, List.get_or-set_other, List.get_or-set_same, List.length-map, List.length-set}
use Rattle.std.{proofs.lemmas.List.FromFn.length-enumerate_from, specs.Int.w64, specs.Int.trailing_zeros, specs.List.enumerate_from}
use Rattle.std.specs.Prelude.{map, ◌^◌, ◌==◌, if◌then◌else◌}
use Rattle.region_config.specs.{Blocks.with_block, Configurations.Configuration, Granules.no_region, Granules.region_spec, Granules.region_granules, Granules.first_granule, Granules.with_blocks}
use Rattle.region_config.specs.declared.region_spec.RegionSpec.{RegionSpec}

abbrev at_block : (ℕ → ℕ) → ℕ × RegionSpec → RegionSpec
at_block b spec = record spec.1 { block = b spec.0 }

at_enumerated : (b : ℕ → ℕ) (n : ℕ) (specs : List RegionSpec) (r : ℕ) → r < length specs → get_or (map (at_block b) (enumerate_from n specs)) r no_region ≡ at_block b (n + r, get_or specs r no_region)
at_enumerated b n [] r h = absurd (omega (arith, h))
at_enumerated b n (s ∷ specs) zero h = ap (λ k. at_block b (k, s)) (sym (add-zero n))
at_enumerated b n (s ∷ specs) (suc r) h =
    let k : n + 1 + r ≡ n + suc r = omega arith in
    at_enumerated b (n + 1) specs r (omega (arith, h)) ∙ ap (λ k. at_block b (k, get_or specs r no_region)) k

past_enumerated : (b : ℕ → ℕ) (n : ℕ) (specs : List RegionSpec) (r : ℕ) → length specs ≤ r → get_or (map (at_block b) (enumerate_from n specs)) r no_region ≡ get_or specs r no_region
past_enumerated b n [] r h = refl
past_enumerated b n (s ∷ specs) zero h = absurd (omega (arith, h))
past_enumerated b n (s ∷ specs) (suc r) h = past_enumerated b (n + 1) specs r (omega (arith, h))

pub region_spec-with_blocks : (c : Configuration) (b : ℕ → ℕ) (r : ℕ) → r < length c.regions → region_spec (with_blocks c b) r ≡ record (region_spec c r) { block = b r }
region_spec-with_blocks c b r h =
    let k : 0 + r ≡ r = omega arith in
    at_enumerated b 0 c.regions r h ∙ ap (λ k. at_block b (k, region_spec c r)) k

-- so granules stay
pub granules_in-with_blocks : (c : Configuration) (b : ℕ → ℕ) (r : ℕ) → region_granules (with_blocks c b) r ≡ region_granules c r
granules_in-with_blocks c b r = elim (cases_lt r (length c.regions)) [
  | inl h ↦ ap (λ (spec : RegionSpec). spec.length / 2 ^ trailing_zeros w64 spec.sizes) (region_spec-with_blocks c b r h)
  | inr h ↦ ap (λ (spec : RegionSpec). spec.length / 2 ^ trailing_zeros w64 spec.sizes) (past_enumerated b 0 c.regions r h)
]

pub first_granule-with_blocks : (c : Configuration) (b : ℕ → ℕ) (r : ℕ) → first_granule (with_blocks c b) r ≡ first_granule c r
first_granule-with_blocks c b zero = refl
first_granule-with_blocks c b (suc r) = λ i. first_granule-with_blocks c b r i + granules_in-with_blocks c b r i

-- another block in one region is another number among the blocks
abbrev pub changed : (ℕ → ℕ) → ℕ → ℕ → ℕ → ℕ
changed b r size k = if k == r then size else b k

long : (c : Configuration) (b : ℕ → ℕ) → length (with_blocks c b).regions ≡ length c.regions
long c b = length-map (enumerate_from 0 c.regions) (at_block b) ∙ length-enumerate_from 0 c.regions

module _ (c : Configuration) (b : ℕ → ℕ) (r size : ℕ) (known : r < length c.regions) where
  here : record (region_spec (with_blocks c b) r) { block = size } ≡ region_spec (with_blocks c (changed b r size)) r
  here =
      let it : changed b r size r ≡ size = rw (eq-eqb r r refl) refl in
      ap (λ (spec : RegionSpec). record spec { block = size }) (region_spec-with_blocks c b r known)
      ∙ ap (λ n. record (region_spec c r) { block = n }) (sym it)
      ∙ sym (region_spec-with_blocks c (changed b r size) r known)

  elsewhere : (i : ℕ) → i ≢ r → i < length c.regions → region_spec (with_blocks c b) i ≡ region_spec (with_blocks c (changed b r size)) i
  elsewhere i other within =
      let it : changed b r size i ≡ b i = rw (ne_eqb i r other) refl in
      region_spec-with_blocks c b i within
      ∙ ap (λ n. record (region_spec c i) { block = n }) (sym it)
      ∙ sym (region_spec-with_blocks c (changed b r size) i within)

  same_regions : (with_block (with_blocks c b) r size).regions ≡ (with_blocks c (changed b r size)).regions
  same_regions =
      let before : List RegionSpec = (with_blocks c b).regions in
      let there : RegionSpec = record (region_spec (with_blocks c b) r) { block = size } in
      let kept = length-set before r there in
      ext_get_or no_region (set before r there) (with_blocks c (changed b r size)).regions (kept ∙ long c b ∙ sym (long c (changed b r size)))
      (λ i less. elim (cases_eq i r) [
        | inl it ↦ subst (λ k. get_or (set before r there) k no_region ≡ region_spec (with_blocks c (changed b r size)) k) (sym it) (get_or-set_same before r there no_region (omega (arith, known, long c b)) ∙ here)
        | inr other ↦ get_or-set_other before r i there no_region other ∙ elsewhere i other (omega (arith, less, kept, long c b))
      ])

  pub with_block-with_blocks : with_block (with_blocks c b) r size ≡ with_blocks c (changed b r size)
  with_block-with_blocks = λ i. record { hosts = c.hosts; regions = same_regions i; bases = c.bases }
