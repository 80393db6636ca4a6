-- What the runs of a prescribed list are that breaks no rule: runs of free granules, of which no two share one.
use Rattle.std.proofs.Common.{◌≡◌, ℕ, ◌+◌, ◌-◌, ◌*◌, ◌/◌, ◌<◌, ◌≤◌, Bool, true, false, List, [], ◌∷◌, ◌++◌, length, Option, Some, None, refl, ap, sym, subst, ◌∙◌, ◌⊎◌, inl, inr, arith, leb, ltb, append_assoc}
use Rattle.std.{proofs.Math.Nat.add-mul, proofs.Math.Nat.mul-le-mul_right, proofs.lemmas.Iterator.Adapters.position_from-zero, proofs.lemmas.Option.none-some, specs.List.position_from}
use Rattle.std.specs.Prelude.{All, not, option_map, position}
use Rattle.std.proofs.lemmas.Bool.{and_from, and_parts, and_right, cases_Bool, cases_lt, false≢true, leb-true, lt-leb, lt-ltb, le-ltb, ltb-true}
use Rattle.extent_list.specs.{ExtentLists.overlaps, Listing.misplaced, Listing.overlapping, Listing.too_many_listed}
use Rattle.extent_list.specs.dcd_codes.specs.Rules.{◌breaks◌, each_in, first_by}
use Rattle.extent_list.specs.dcd_codes.specs.dcd_base.specs.{Words.◌or◌, Words.has_granule, Words.has_in_runs, Words.is_empty, declared.capacity.Extent.Extent, declared.ids.HostId.HostId}
use Rattle.extent_list.specs.{dcd_codes.specs.dcd_base.specs.declared.media.Run.Run, dcd_codes.specs.declared.rules.Rule.Rule, media_map.specs.Places.IsRun, media_map.specs.Places.run_of}
use Rattle.extent_list.specs.media_map.specs.region_config.{proofs.Faultless.granule_from, specs.Configurations.Configuration}
use Rattle.extent_list.specs.media_map.specs.region_config.specs.{Granules.base_of, Granules.first_granule, Granules.granule_size, Soundness.IsSound}
use Rattle.selection.proofs.Placed.{IsPlaced, all_cons, bytes_of, its_run, placed, run_is_run, starts_at}
use Rattle.selection.specs.Selections.{AreApart, all_free, are_free, free_extent_rule, listed_runs, prescribed_rule}

-- neither of two rules is broken
pub neither : (a b : Option Rule) → (a or b) ≡ None → (a ≡ None) × (b ≡ None)
neither None b none = (refl, none)
neither (Some r) b none = absurd (none-some r (sym none))

not_broken : (b : Bool) (rule : Rule) → (not b breaks rule) ≡ None → b ≡ true
not_broken true rule none = refl
not_broken false rule none = absurd (none-some rule (sym none))

-- What it means that an extent breaks no rule behind those before it.
pub record IsKept (c : Configuration) (h : HostId) (free : ℕ → Bool) (r : ℕ) (before : List Extent) (x : Extent) : Type 0 where
  pub place : IsPlaced c h r x
  pub is_free : all_free free (run_of c h x) ≡ true
  pub no_overlap : overlapping before x ≡ None

pub kept : (c : Configuration) (h : HostId) (free : ℕ → Bool) (r : ℕ) (before : List Extent) (x : Extent) → free_extent_rule c h free r before x ≡ None → IsKept c h free r before x
kept c h free r before x none =
    let placing : Option Rule = misplaced c h r (length before) x in
    let freedom : Option Rule = not (all_free free (run_of c h x)) breaks Rule.NotFree (length before) in
    let last = neither (placing or freedom) (overlapping before x) none in
    let first = neither placing freedom last.0 in
    record { place = placed c h r (length before) x first.0; is_free = not_broken (all_free free (run_of c h x)) (Rule.NotFree (length before)) first.1; no_overlap = last.1 }

-- no member up to a place passes where none is found
none_from : (p : Extent → Bool) (i : ℕ) (front : List Extent) (x : Extent) (back : List Extent) → position_from p i (front ++ x ∷ back) ≡ None → p x ≡ false
none_from p i [] x back none = elim (cases_Bool (p x)) [
  | inl here ↦ absurd (none-some i (sym (rw here at none)))
  | inr fails ↦ fails
]
none_from p i (y ∷ front) x back none = elim (cases_Bool (p y)) [
  | inl here ↦ absurd (none-some i (sym (rw here at none)))
  | inr fails ↦ none_from p (i + 1) front x back (rw fails at none)
]

pub option_none : (f : ℕ → Rule) (o : Option ℕ) → option_map f o ≡ None → o ≡ None
option_none f None none = refl
option_none f (Some j) none = absurd (none-some (f j) (sym none))

no_overlap_with : (front : List Extent) (x : Extent) (back : List Extent) (y : Extent) → overlapping (front ++ x ∷ back) y ≡ None → overlaps y x ≡ false
no_overlap_with front x back y none =
    let before : List Extent = front ++ x ∷ back in
    none_from (overlaps y) 0 front x back (sym (position_from-zero (overlaps y) before) ∙ option_none (λ j. Rule.Overlap (length before) j) (position (overlaps y) before) none)

apart_runs : (a b : Run) (g : ℕ) → (a.first + a.count ≤ b.first) ⊎ (b.first + b.count ≤ a.first) → has_granule a g ≡ true → has_granule b g ≡ false
apart_runs a b g apart has =
    let parts = and_parts (leb a.first g) (ltb g (a.first + a.count)) has in
    let from = leb-true a.first g parts.0 in
    let below = ltb-true g (a.first + a.count) parts.1 in
    elim apart [
      | inl above ↦ (let low : leb b.first g ≡ false = lt-leb b.first g (omega (arith, below, above)) in rw low refl)
      | inr under ↦ and_right (leb b.first g) (ltb g (b.first + b.count)) (le-ltb g (b.first + b.count) (omega (arith, under, from)))
    ]

-- what ends before it in bytes does so in granules
ends_before : (size q n m : ℕ) → 0 < size → q * size + n * size ≤ m * size → q + n ≤ m
ends_before size q n m some ends = elim (cases_lt m (q + n)) [
  | inr fits ↦ fits
  | inl more ↦ absurd (omega (arith, mul-le-mul_right size more, add-mul q n size, add-mul m 1 size, ends, some))
]

module _ (c : Configuration) (h : HostId) (s : IsSound c) (host : h < c.hosts) (r : ℕ) where
  -- placed extents that share no address share no granule
  extents_apart : (x y : Extent) → IsPlaced c h r x → IsPlaced c h r y → overlaps y x ≡ false → (g : ℕ) → has_granule (run_of c h x) g ≡ true → has_granule (run_of c h y) g ≡ false
  extents_apart x y p q apart g has =
      let size : ℕ = granule_size c r in
      let some : 0 < granule_size c r = omega (arith, granule_from c r (s.each r p.known)) in
      let a : Run = record { first = first_granule c r + (x.start - base_of c h r) / granule_size c r; count = x.length / granule_size c r } in
      let b : Run = record { first = first_granule c r + (y.start - base_of c h r) / granule_size c r; count = y.length / granule_size c r } in
      let xs = starts_at c h s host r x p in
      let xn = bytes_of c h s host r x p in
      let ys = starts_at c h s host r y q in
      let yn = bytes_of c h s host r y q in
      let sides : (a.first + a.count ≤ b.first) ⊎ (b.first + b.count ≤ a.first) =
      elim (cases_lt y.start (x.start + x.length)) [
        | inr above ↦ (let ends = ends_before size ((x.start - base_of c h r) / size) (x.length / size) ((y.start - base_of c h r) / size) some
            (omega (arith, xs, xn, ys, above, p.from, q.from)) in inl (omega (arith, ends)))
        | inl starts ↦ elim (cases_lt x.start (y.start + y.length)) [
          | inr under ↦ (let ends = ends_before size ((y.start - base_of c h r) / size) (y.length / size) ((x.start - base_of c h r) / size) some
              (omega (arith, ys, yn, xs, under, p.from, q.from)) in inr (omega (arith, ends)))
          | inl goes_on ↦ absurd (false≢true (sym apart ∙ and_from _ _ (lt-ltb _ _ starts) (lt-ltb _ _ goes_on)))
        ]
      ] in
      let has_a = subst (λ run. has_granule run g ≡ true) (its_run c h s host r x p) has in
      subst (λ run. has_granule run g ≡ false) (sym (its_run c h s host r y q)) (apart_runs a b g sides has_a)

  module _ (free : ℕ → Bool) where
    later_apart : (x : Extent) → IsPlaced c h r x → (front back ys : List Extent) → first_by (free_extent_rule c h free r) (front ++ x ∷ back) ys ≡ None
        → (g : ℕ) → has_granule (run_of c h x) g ≡ true → has_in_runs (listed_runs c h ys) g ≡ false
    later_apart x p front back [] none g has = refl
    later_apart x p front back (y ∷ ys) none g has =
        let before : List Extent = front ++ x ∷ back in
        let check = free_extent_rule c h free r in
        let parts = neither (check before y) (first_by check (before ++ y ∷ []) ys) none in
        let k = kept c h free r before y parts.0 in
        let here : has_granule (run_of c h y) g ≡ false = extents_apart x y p k.place (no_overlap_with front x back y k.no_overlap) g has in
        let rest = later_apart x p front (back ++ y ∷ []) ys (ap (λ b. first_by check b ys) (sym (append_assoc front (x ∷ back) (y ∷ []))) ∙ parts.1) g has in
        rw here rest

    pub kept_apart : (before xs : List Extent) → first_by (free_extent_rule c h free r) before xs ≡ None → AreApart (listed_runs c h xs)
    kept_apart before [] none = tt
    kept_apart before (x ∷ xs) none =
        let check = free_extent_rule c h free r in
        let parts = neither (check before x) (first_by check (before ++ x ∷ []) xs) none in
        let k = kept c h free r before x parts.0 in
        ((λ g has. later_apart x k.place before [] xs parts.1 g has), kept_apart (before ++ x ∷ []) xs parts.1)

    pub kept_runs : (before xs : List Extent) → first_by (free_extent_rule c h free r) before xs ≡ None → All (IsRun c) (listed_runs c h xs)
    kept_runs before [] none = λ k d below. absurd (omega (arith, below))
    kept_runs before (x ∷ xs) none =
        let check = free_extent_rule c h free r in
        let parts = neither (check before x) (first_by check (before ++ x ∷ []) xs) none in
        let k = kept c h free r before x parts.0 in
        all_cons (IsRun c) (run_of c h x) (listed_runs c h xs) (run_is_run c h s host r x k.place) (kept_runs (before ++ x ∷ []) xs parts.1)

    pub kept_free : (before xs : List Extent) → first_by (free_extent_rule c h free r) before xs ≡ None → are_free free (listed_runs c h xs) ≡ true
    kept_free before [] none = refl
    kept_free before (x ∷ xs) none =
        let check = free_extent_rule c h free r in
        let parts = neither (check before x) (first_by check (before ++ x ∷ []) xs) none in
        let k = kept c h free r before x parts.0 in
        and_from (all_free free (run_of c h x)) (are_free free (listed_runs c h xs)) k.is_free (kept_free (before ++ x ∷ []) xs parts.1)

-- the first rule of a prescribed list of some extents, not too many, is that of an extent
pub extent_broken : (c : Configuration) (h : HostId) (free : ℕ → Bool) (r : ℕ) (list : List Extent) → is_empty list ≡ false → too_many_listed list ≡ None → (rule : Rule) → each_in list (free_extent_rule c h free r) ≡ Some rule
    → prescribed_rule c h free r list ≡ Some rule
extent_broken c h free r list some few rule broken = rw (some, few, broken) refl
