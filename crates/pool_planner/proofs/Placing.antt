-- Demands that are named well: where they are, and how many they can be.
use Rattle.std.proofs.Common.{◌≡◌, ℕ, zero, suc, ◌+◌, ◌*◌, ◌<◌, ◌≤◌, Bool, true, false, leb, ◌||◌, ◌==◌, List, [], ◌∷◌, length, get_or, take, map, refl, sym, ap, subst, ◌∙◌, arith, inl, inr}
use Rattle.std.proofs.lemmas.Bool.{and_from, cases_Bool, eq-eqb, eqb-true, leb-false, Decides.Decides-eqb}
use Rattle.std.proofs.lemmas.{List.get_or-map, List.get_or-take, List.length-map, List.length-take, List.Folds.list_any_at, Map.Made.IsDistinct-from_AllPairs, Map.Steps.length-le_from_distinct_below}
use Rattle.std.specs.List.{AllPairs, list_any}
use Rattle.region_config.specs.{Configurations.Configuration, Granules.region_spec, Soundness.IsSound}
use Rattle.plan_rules.specs.{Planning.has_number, Planning.is_bad_dead, Planning.is_bad_demand, Planning.no_demand, Planning.same_place, declared.demands.Demand.Demand}
use Rattle.plan_rules.specs.declared.demands.Demands.{Demands}
use Rattle.pool_planner.specs.Naming.{ArePlaced, IsPlaced}

not_false : true ≡ false → ⊥
not_false e = cc

or_parts : (x y : Bool) → (x || y) ≡ false → (x ≡ false) × (y ≡ false)
or_parts true y is = absurd (not_false is)
or_parts false y is = (refl, is)

default_free : {X : Type 0} (xs : List X) (k : ℕ) (d e : X) → k < length xs → get_or xs k d ≡ get_or xs k e
default_free [] k d e below = absurd (omega (arith, below))
default_free (x ∷ xs) zero d e below = refl
default_free (x ∷ xs) (suc k) d e below = default_free xs k d e (omega (arith, below))

-- one number for a host and a region
place : Demand → ℕ
place x = x.host * 8 + x.region

same_at : (x y : Demand) → x.region < 8 → y.region < 8 → place x ≡ place y → same_place y x ≡ true
unfolding place
same_at x y low high e = and_from (y.host == x.host) (y.region == x.region) (eq-eqb y.host x.host (omega arith)) (eq-eqb y.region x.region (omega arith))

any_below : (n q : ℕ) (xs : List Demand) → ((k : ℕ) → k < length xs → place (get_or xs k no_demand) < n) → list_any (λ m. q == m) (map place xs) ≡ true → q < n
any_below n q [] all e = absurd (not_false (sym e))
any_below n q (x ∷ xs) all e = elim (cases_Bool (q == place x)) [
  | inl is ↦ (let first = all 0 (omega arith) in let same : q ≡ place x = eqb-true q (place x) is in omega (arith, first, same))
  | inr other ↦ any_below n q xs (λ k below. all (suc k) (omega (arith, below))) (ap (λ b. b || list_any (λ m. q == m) (map place xs)) (sym other) ∙ e)
]

module _ (c : Configuration) (q : Demands) (sound : IsSound c) (fine : (k : ℕ) → k < length q.demands → is_bad_demand c q k ≡ false) (alive : (k : ℕ) → k < length q.dead → is_bad_dead c q k ≡ false) where
  abbrev at : ℕ → Demand
  at k = get_or q.demands k no_demand

  module _ (k : ℕ) (below : k < length q.demands) where
    first : (leb c.hosts (at k).host || leb (length c.regions) (at k).region || (region_spec c (at k).region).shareable || list_any (same_place (at k)) (take k q.demands)) ≡ false
    first = (or_parts (leb c.hosts (at k).host || leb (length c.regions) (at k).region || (region_spec c (at k).region).shareable || list_any (same_place (at k)) (take k q.demands)) (has_number q.dead (at k).host) (fine k below)).0

    alone : list_any (same_place (at k)) (take k q.demands) ≡ false
    alone = (or_parts (leb c.hosts (at k).host || leb (length c.regions) (at k).region || (region_spec c (at k).region).shareable) (list_any (same_place (at k)) (take k q.demands)) first).1

    known : (leb c.hosts (at k).host || leb (length c.regions) (at k).region) ≡ false
    known = (or_parts (leb c.hosts (at k).host || leb (length c.regions) (at k).region) (region_spec c (at k).region).shareable
        (or_parts (leb c.hosts (at k).host || leb (length c.regions) (at k).region || (region_spec c (at k).region).shareable) (list_any (same_place (at k)) (take k q.demands)) first).0).0

    placed : IsPlaced c (at k)
    placed = record {
      host = leb-false c.hosts (at k).host (or_parts (leb c.hosts (at k).host) (leb (length c.regions) (at k).region) known).0;
      region = leb-false (length c.regions) (at k).region (or_parts (leb c.hosts (at k).host) (leb (length c.regions) (at k).region) known).1;
    }

  small : (k : ℕ) → k < length q.demands → place (at k) < 128
  unfolding place
  small k below = omega (arith, (placed k below).host, (placed k below).region, sound.hosts, sound.regions)

  apart : (i j : ℕ) → i < j → j < length q.demands → place (at i) ≡ place (at j) → ⊥
  apart i j under below e =
      let front : i < length (take j q.demands) = omega (arith, length-take j q.demands, under, below) in
      let low = placed i (omega (arith, under, below)) in
      let high = placed j below in
      let same : same_place (at j) (get_or (take j q.demands) i no_demand) ≡ true = ap (same_place (at j)) (get_or-take j q.demands i no_demand under)
      ∙ same_at (at i) (at j) (omega (arith, low.region, sound.regions)) (omega (arith, high.region, sound.regions)) e in
      not_false (sym (list_any_at (same_place (at j)) (take j q.demands) i no_demand front same) ∙ alone j below)

  few : length q.demands ≤ 128
  few =
      let long : length (map place q.demands) ≡ length q.demands = length-map q.demands place in
      let pairs : AllPairs (λ (x y : ℕ). x ≡ y → ⊥) (map place q.demands) = λ i j d under below e. apart i j under (omega (arith, below, long))
      (sym (get_or-map place q.demands i no_demand d (omega (arith, under, below, long))) ∙ e ∙ get_or-map place q.demands j no_demand d (omega (arith, below, long))) in
      let bound = length-le_from_distinct_below (map place q.demands) 128 (IsDistinct-from_AllPairs Decides-eqb (map place q.demands) pairs) (λ m e. any_below 128 m q.demands small e) in
      omega (arith, bound, long)

  pub are_placed : ArePlaced c q
  are_placed = record {
    dead = λ k d below. subst (λ n. n < c.hosts) (default_free q.dead k 0 d below)
        (leb-false c.hosts (get_or q.dead k 0) (or_parts (leb c.hosts (get_or q.dead k 0)) (has_number (take k q.dead) (get_or q.dead k 0)) (alive k below)).0);
    few = few;
    demands = λ k d below. subst (IsPlaced c) (default_free q.demands k no_demand d below) (placed k below);
  }
