-- What is known of the demands where a plan has no fault.
use Rattle.std.proofs.Common.{◌≡◌, ℕ, zero, suc, ◌<◌, ◌≤◌, Bool, true, false, not, ◌&&◌, ◌||◌, ◌==◌, List, [], ◌∷◌, length, take, Option, Some, None, get_or, refl, sym, ◌∙◌, arith}
use Rattle.std.specs.{Prelude.nat_le, Prelude.nat_lt, Prelude.option_map, List.AllByRecursion, List.list_any}
use Rattle.std.proofs.lemmas.Bool.{and_from, eq-eqb, false≢true, leb-false, ltb-false, not-false, or_parts, or_right, or_left}
use Rattle.dcd_base.specs.{declared.ids.HostId.HostId, Words.is_empty}
use Rattle.media_map.proofs.PlaceLemmas.{none_found}
use Rattle.region_config.{specs.Configurations.Configuration, specs.Granules.region_spec, proofs.Searches.or_parts as option_parts}
use Rattle.journal_core.specs.{Entries.effects, declared.outcome.Effect.Effect, declared.outcome.HeldKind.HeldKind, declared.entries.Entry.Entry}
use Rattle.isolation_laws.specs.device_rules.specs.Hosts.{held_of, offers_of}
use Rattle.plan_rules.{proofs.DeadHosts.touches_host, proofs.Demanded.touches_pair, proofs.Walks.AllApart, proofs.Walks.ApartFrom, specs.ActsLeft.IsPlain, specs.declared.demands.Demand.Demand}
use Rattle.plan_rules.specs.declared.{demands.Demands.Demands, faults.PlanFault.PlanFault}
use Rattle.plan_rules.specs.Planning.{has_held, has_number, have_in, is_bad_dead, is_bad_demand, is_demanded, is_open, lowest_below, named_fault, need_in, no_demand, same_place, short_fault}

-- ---- lists by their indices

pub by_index : {X : Type 0} (P : X → Type 0) (xs : List X) (d : X) → ((i : ℕ) → i < length xs → P (get_or xs i d)) → AllByRecursion P xs
by_index P [] d each = tt
by_index P (x ∷ xs) d each = (each 0 (omega arith), by_index P xs d (λ i below. each (suc i) (omega (arith, below))))

apart_by_index : {X : Type 0} (touches : X → HostId → ℕ → Type 0) (same : X → X → Bool) → ((x y : X) → same y x ≡ false → ApartFrom touches x y) → (xs : List X) (d : X) →
    ((i : ℕ) → i < length xs → list_any (same (get_or xs i d)) (take i xs) ≡ false) → AllApart touches xs
apart_by_index touches same step [] d each = tt
apart_by_index touches same step (x ∷ xs) d each = (
  by_index (ApartFrom touches x) xs d (λ i below. step x (get_or xs i d) (or_parts (same (get_or xs i d) x) (list_any (same (get_or xs i d)) (take i xs)) (each (suc i) (omega (arith, below)))).0),
  apart_by_index touches same step xs d (λ i below. (or_parts (same (get_or xs i d) x) (list_any (same (get_or xs i d)) (take i xs)) (each (suc i) (omega (arith, below)))).1),
)

among : {X : Type 0} (test : X → Bool) (xs : List X) (i : ℕ) (d : X) → i < length xs → test (get_or xs i d) ≡ true → list_any test xs ≡ true
among test [] i d below is = absurd (omega (arith, below))
among test (x ∷ xs) zero d below is = or_left (test x) (list_any test xs) is
among test (x ∷ xs) (suc i) d below is = or_right (test x) (list_any test xs) (among test xs i d (omega (arith, below)) is)

none_among : (ns : List ℕ) (n : ℕ) → list_any (λ m. m == n) ns ≡ false → AllByRecursion (λ m. m ≡ n → ⊥) ns
none_among [] n none = tt
none_among (m ∷ ns) n none = let parts = or_parts (m == n) (list_any (λ k. k == n) ns) none in ((λ same. false≢true (sym parts.0 ∙ eq-eqb m n same)), none_among ns n parts.1)

empty_is : {X : Type 0} (xs : List X) → is_empty xs ≡ true → xs ≡ []
empty_is [] is = refl
empty_is (x ∷ xs) is = absurd (false≢true is)

map_none : {X Y : Type 0} (f : X → Y) (o : Option X) → option_map f o ≡ None → o ≡ None
map_none f None none = refl
map_none f (Some x) none = absurd (cc)

-- ---- no fault

-- The host has nothing held and is offered nothing.
pub record IsClosed (h : HostId) (past : List Effect) : Type 0 where
  pub held : (kind : HeldKind) → held_of h kind past ≡ []
  pub offers : offers_of h past ≡ []

-- Each demand names a place that is no other's, of a host that is not dead and has nothing open. Dead hosts are the
-- device's, each named once, and hold no lists. And each region has so many blocks as are to be gained.
pub record IsFaultless (c : Configuration) (journal : List Entry) (q : Demands) : Type 0 where
  pub plain : AllByRecursion (IsPlain c) q.demands
  pub apart : AllApart touches_pair q.demands
  pub living : AllByRecursion (λ (x : Demand). AllByRecursion (λ d. d ≡ x.host → ⊥) q.dead) q.demands
  pub closed : AllByRecursion (λ (x : Demand). IsClosed x.host (effects journal)) q.demands
  pub dead : AllByRecursion (λ h. h < c.hosts) q.dead
  pub dead_apart : AllApart touches_host q.dead
  pub dead_held : AllByRecursion (λ h. (kind : HeldKind) → held_of h kind (effects journal) ≡ []) q.dead
  pub enough : (r : ℕ) → r < length c.regions → need_in c (effects journal) q r ≤ have_in c journal q r

module _ (c : Configuration) (journal : List Entry) (q : Demands) (named : named_fault c q ≡ None) (shut : option_map PlanFault.Open (lowest_below (is_open (effects journal) q) c.hosts) ≡ None)
    (enough : short_fault c journal q ≡ None) where
  none_below : (is : ℕ → Bool) (n : ℕ) → lowest_below is n ≡ None → (k : ℕ) → k < n → is k ≡ false
  none_below is n missing k below = none_found is 0 n missing k (omega arith) (omega (arith, below))

  good_demand : (i : ℕ) → i < length q.demands → is_bad_demand c q i ≡ false
  good_demand i below = none_below (is_bad_demand c q) (length q.demands) (map_none PlanFault.BadDemand _ (option_parts _ _ named).0) i below

  good_dead : (i : ℕ) → i < length q.dead → is_bad_dead c q i ≡ false
  good_dead i below = none_below (is_bad_dead c q) (length q.dead) (map_none PlanFault.BadDead _ (option_parts _ _ named).1) i below

  not_open : (h : ℕ) → h < c.hosts → is_open (effects journal) q h ≡ false
  not_open h below = none_below (is_open (effects journal) q) c.hosts (map_none PlanFault.Open _ shut) h below

  record IsGood (i : ℕ) : Type 0 where
    plain : IsPlain c (get_or q.demands i no_demand)
    first : list_any (same_place (get_or q.demands i no_demand)) (take i q.demands) ≡ false
    living : has_number q.dead (get_or q.demands i no_demand).host ≡ false

  good : (i : ℕ) → i < length q.demands → IsGood i
  good i below =
      let x : Demand = get_or q.demands i no_demand in
      let five = or_parts (nat_le c.hosts x.host || nat_le (length c.regions) x.region || (region_spec c x.region).shareable || list_any (same_place x) (take i q.demands)) (has_number q.dead x.host) (good_demand i below) in
      let four = or_parts (nat_le c.hosts x.host || nat_le (length c.regions) x.region || (region_spec c x.region).shareable) (list_any (same_place x) (take i q.demands)) five.0 in
      let three = or_parts (nat_le c.hosts x.host || nat_le (length c.regions) x.region) (region_spec c x.region).shareable four.0 in
      let two = or_parts (nat_le c.hosts x.host) (nat_le (length c.regions) x.region) three.0 in
      record {
        plain = record { host = leb-false c.hosts x.host two.0; region = leb-false (length c.regions) x.region two.1; private = three.1 };
        first = four.1;
        living = five.1;
      }

  nothing_held : (h : HostId) → has_held h (effects journal) ≡ false → (kind : HeldKind) → held_of h kind (effects journal) ≡ []
  nothing_held h is HeldKind.Responses = empty_is (held_of h HeldKind.Responses (effects journal)) (not-false _ (or_parts (not (is_empty (held_of h HeldKind.Responses (effects journal)))) _ is).0)
  nothing_held h is HeldKind.Releases = empty_is (held_of h HeldKind.Releases (effects journal)) (not-false _ (or_parts (not (is_empty (held_of h HeldKind.Responses (effects journal)))) _ is).1)

  and_rest : (a b : Bool) → (a && b) ≡ false → b ≡ true → a ≡ false
  and_rest true b is other = absurd (false≢true (sym is ∙ other))
  and_rest false b is other = refl

  closed_at : (i : ℕ) → i < length q.demands → IsClosed (get_or q.demands i no_demand).host (effects journal)
  closed_at i below =
      let x : Demand = get_or q.demands i no_demand in
      let demanded : is_demanded q x.host ≡ true = among (λ (y : Demand). y.host == x.host) q.demands i no_demand below (eq-eqb x.host x.host refl) in
      let parts = or_parts (has_held x.host (effects journal) && (has_number q.dead x.host || is_demanded q x.host)) (is_demanded q x.host && not (is_empty (offers_of x.host (effects journal)))) (not_open x.host (good i below).plain.host) in
      record {
        held = nothing_held x.host (and_rest (has_held x.host (effects journal)) _ parts.0 (or_right (has_number q.dead x.host) _ demanded));
        offers = empty_is (offers_of x.host (effects journal)) (not-false _ (rest_of (is_demanded q x.host) _ parts.1 demanded));
      }
    where
      rest_of : (a b : Bool) → (a && b) ≡ false → a ≡ true → b ≡ false
      rest_of true b is other = is
      rest_of false b is other = absurd (false≢true other)

  dead_at : (i : ℕ) → i < length q.dead → (get_or q.dead i 0 < c.hosts) × (has_number (take i q.dead) (get_or q.dead i 0) ≡ false)
  dead_at i below =
      let parts = or_parts (nat_le c.hosts (get_or q.dead i 0)) (has_number (take i q.dead) (get_or q.dead i 0)) (good_dead i below) in
      (leb-false c.hosts (get_or q.dead i 0) parts.0, parts.1)

  dead_held_at : (i : ℕ) → i < length q.dead → (kind : HeldKind) → held_of (get_or q.dead i 0) kind (effects journal) ≡ []
  dead_held_at i below =
      let h : HostId = get_or q.dead i 0 in
      let is_dead : has_number q.dead h ≡ true = among (λ m. m == h) q.dead i 0 below (eq-eqb h h refl) in
      let parts = or_parts (has_held h (effects journal) && (has_number q.dead h || is_demanded q h)) (is_demanded q h && not (is_empty (offers_of h (effects journal)))) (not_open h (dead_at i below).0) in
      nothing_held h (and_rest (has_held h (effects journal)) _ parts.0 (or_left (has_number q.dead h) _ is_dead))

  pair_apart : (x y : Demand) → same_place y x ≡ false → ApartFrom touches_pair x y
  pair_apart x y other h r one two =
      false≢true (sym other ∙ and_from (y.host == x.host) (y.region == x.region) (eq-eqb y.host x.host (two.0 ∙ sym one.0)) (eq-eqb y.region x.region (two.1 ∙ sym one.1)))

  host_apart : (x y : HostId) → (x == y) ≡ false → ApartFrom touches_host x y
  host_apart x y other h r one two = false≢true (sym other ∙ eq-eqb x y (one ∙ sym two))

  pub faultless : IsFaultless c journal q
  faultless = record {
    plain = by_index (IsPlain c) q.demands no_demand (λ i below. (good i below).plain);
    apart = apart_by_index touches_pair same_place pair_apart q.demands no_demand (λ i below. (good i below).first);
    living = by_index (λ (x : Demand). AllByRecursion (λ d. d ≡ x.host → ⊥) q.dead) q.demands no_demand (λ i below. none_among q.dead (get_or q.demands i no_demand).host (good i below).living);
    closed = by_index (λ (x : Demand). IsClosed x.host (effects journal)) q.demands no_demand closed_at;
    dead = by_index (λ h. h < c.hosts) q.dead 0 (λ i below. (dead_at i below).0);
    dead_apart = apart_by_index touches_host (λ y x. x == y) host_apart q.dead 0 (λ i below. (dead_at i below).1);
    dead_held = by_index (λ h. (kind : HeldKind) → held_of h kind (effects journal) ≡ []) q.dead 0 dead_held_at;
    enough = λ r known. ltb-false (have_in c journal q r) (need_in c (effects journal) q r)
        (none_below (λ r. nat_lt (have_in c journal q r) (need_in c (effects journal) q r)) (length c.regions) (map_none (λ r. PlanFault.Short r (need_in c (effects journal) q r) (have_in c journal q r)) _ enough) r known);
  }
