-- The region of a granule is the one whose granules have its number among them.
use Rattle.std.proofs.Common.{◌≡◌, ℕ, zero, suc, ◌+◌, ◌<◌, ◌≤◌, Bool, true, false, length, Some, refl, ap, subst, sym, inl, inr, arith}
use Rattle.std.{specs.Prelude.unwrap_or, specs.Prelude.nat_lt, specs.List.find, specs.List.range_with_len, proofs.lemmas.Bool.cases_lt, proofs.lemmas.Bool.lt-ltb, proofs.lemmas.Bool.le-ltb}
use Rattle.region_config.{specs.Configurations.Configuration, specs.Granules.first_granule, specs.Granules.granule_total, specs.Granules.region_of, proofs.Faultless.granules_rise}

-- the first of a range that passes
pub find_range : (p : ℕ → Bool) (a n r : ℕ) → a ≤ r → r < a + n → p r ≡ true → ((k : ℕ) → a ≤ k → k < r → p k ≡ false) → find p (range_with_len a n) ≡ Some r
find_range p a zero r low high here none = absurd (omega (arith, low, high))
find_range p a (suc n) r low high here none = elim (cases_lt a r) [
  | inl before ↦ (let far : r < a + 1 + n = omega (arith, high) in let near : a + 1 ≤ r = omega (arith, before) in
      rw (none a (omega arith) before) (find_range p (a + 1) n r near far here (λ k l h. none k (omega (arith, l)) h)))
  | inr after ↦ (let same : a ≡ r = omega (arith, low, after) in rw (same, here) refl)
]

pub region_is : (c : Configuration) (g r : ℕ) → r < length c.regions → first_granule c r ≤ g → g < first_granule c (suc r) → region_of c g ≡ r
region_is c g r known from to =
    ap (λ o. unwrap_or o 0) (find_range (λ k. nat_lt g (first_granule c (suc k))) 0 (length c.regions) r
    (omega arith) (omega (arith, known)) (lt-ltb _ _ to)
    (λ k low high. le-ltb _ _ (omega (arith, from, granules_rise c (suc k) r high))))

-- a region that has the granule
record IsIn (c : Configuration) (g n : ℕ) : Type 0 where
  region : ℕ
  known : region < n
  from : first_granule c region ≤ g
  to : g < first_granule c (suc region)

region_with : (c : Configuration) (g n : ℕ) → g < first_granule c n → IsIn c g n
region_with c g zero below = absurd (omega (arith, below))
region_with c g (suc n) below = elim (cases_lt g (first_granule c n)) [
  | inl before ↦ (let i = region_with c g n before in record { region = i.region; known = omega (arith, i.known); from = i.from; to = i.to })
  | inr last ↦ record { region = n; known = omega arith; from = last; to = below }
]

-- a granule of the device is one of its region's
pub record IsOfRegion (c : Configuration) (g r : ℕ) : Type 0 where
  pub known : r < length c.regions
  pub from : first_granule c r ≤ g
  pub to : g < first_granule c (suc r)

pub of_region : (c : Configuration) (g : ℕ) → g < granule_total c → IsOfRegion c g (region_of c g)
of_region c g below =
    let i = region_with c g (length c.regions) below in
    subst (λ r. IsOfRegion c g r) (sym (region_is c g i.region i.known i.from i.to)) (record { known = i.known; from = i.from; to = i.to })
