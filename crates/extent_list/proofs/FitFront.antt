-- Extents that fit into owners which stand apart, each in the owner before that of the last one.
use Rattle.std.proofs.Common.{◌≡◌, ℕ, ◌+◌, ◌-◌, ◌<◌, ◌≤◌, Bool, true, false, not, ◌&&◌, inl, inr, List, Option, None, length, get_or, take, refl, sym, ap, ◌∙◌, arith, suc, zero, le-ltb, subst}
use Rattle.std.proofs.lemmas.{Bool.and_from, Bool.and_left, Bool.and_parts, Bool.and_right, Bool.cases_lt, Bool.leb-true, Bool.lt-ltb, Bool.ne_eqb, List.get_or_default, List.Folds.list_any_at}
use Rattle.std.specs.Prelude.{◌==◌, nat_le, nat_lt}
use Rattle.dcd_base.specs.declared.{capacity.Extent.Extent, ids.HostId.HostId}
use Rattle.dcd_codes.{specs.declared.rules.Rule.Rule, specs.Rules.◌breaks◌, specs.Rules.each_in, proofs.RuleSteps.each_in_more}
use Rattle.extent_list.{proofs.Apart.apart-by, proofs.Apart.only_owner, proofs.ApartLists.within, proofs.FirstOwner.no_extent, proofs.FirstOwner.owner_at, specs.Apart.StandApart}
use Rattle.extent_list.specs.ExtentLists.{is_whole, lies_in, overlaps, owner_of}
use Rattle.extent_list.specs.Fitting.{Fits, FrontFits, IsFit, IsOwnedBehind, IsPlaced, area_of, fits_area}
use Rattle.extent_list.specs.Listing.{is_aligned, is_shareable_at, lies_in_region, misplaced}
use Rattle.media_map.{proofs.PlaceLemmas.has, proofs.RunLemmas.region_at_is, specs.Places.bounds_of, specs.Places.has_address, specs.Places.has_range, specs.Places.region_at}
use Rattle.media_map.specs.region_config.specs.{Configurations.Configuration, Granules.base_of, Granules.region_spec, Soundness.IsSound}

-- two extents of which one lies in an extent above that of the other
apart-in : (x y upper lower : Extent) → lies_in x upper ≡ true → lies_in y lower ≡ true → lower.start + lower.length ≤ upper.start → overlaps x y ≡ false
apart-in x y upper lower first second below =
    let a = within x.start x.length upper first in
    let b = within y.start y.length lower second in
    and_left (nat_lt x.start (y.start + y.length)) _ (le-ltb x.start (y.start + y.length) (omega (arith, a.begins, b.ends, below)))

apart-over : (x y lower upper : Extent) → lies_in x lower ≡ true → lies_in y upper ≡ true → lower.start + lower.length ≤ upper.start → overlaps x y ≡ false
apart-over x y lower upper first second below =
    let a = within x.start x.length lower first in
    let b = within y.start y.length upper second in
    and_right _ (nat_lt y.start (x.start + x.length)) (le-ltb y.start (x.start + x.length) (omega (arith, a.ends, b.begins, below)))

-- each of so many lies in the owner before that of the last one
abbrev pub FallsTo : Configuration → HostId → ℕ → ℕ → List Extent → List Extent → ℕ → Type 0
FallsTo c h r place owners list n = (k : ℕ) (d : Extent) → k < n → IsFit c h r (get_or owners (place - k) d) (get_or list k d)

module _ (c : Configuration) (h : HostId) (r place : ℕ) (owners list : List Extent) where
  pub falls_more : (i : ℕ) → i < length list → place < length owners → IsFit c h r (get_or owners (place - i) no_extent) (get_or list i no_extent) → FallsTo c h r place owners list i
      → FallsTo c h r place owners list (i + 1)
  falls_more i listed known next before k d below = elim (cases_lt k i) [
    | inl less ↦ before k d less
    | inr from ↦
        let is : i ≡ k = omega (arith, below, from) in
        let owner = get_or_default owners (place - i) no_extent d (omega (arith, known)) in
        let extent = get_or_default list i no_extent d listed in
        subst (λ (j : ℕ). IsFit c h r (get_or owners (place - j) d) (get_or list j d)) is
        (subst (λ (y : Extent). IsFit c h r y (get_or list i d)) owner (subst (IsFit c h r (get_or owners (place - i) no_extent)) extent next))
  ]

  pub front_fits : StandApart owners → place < length owners → (n : ℕ) → n ≤ place + 1 → n ≤ length list → FallsTo c h r place owners list n → FrontFits c h owners list n
  front_fits apart known n few listed fit i d below =
      let x = get_or list i d in
      let o = get_or owners (place - i) d in
      let is = fit i d below in
      let here : place - i < length owners = omega (arith, known) in
      let owner : o ≡ owner_of owners x = owner_at owners x (place - i) d (only_owner owners x (place - i) d apart is.placed.some here is.owned.inside) in
      record {
        placed = ap (λ (k : ℕ). misplaced c h k (length (take i list)) x) is.placed.at ∙ is.placed.placed (length (take i list));
        inside = list_any_at (lies_in x) owners (place - i) d here is.owned.inside;
        apart = apart-by list i d (omega (arith, below, listed)) (λ k less.
            (let was = fit k d (omega (arith, less, below)) in elim (apart (place - i) (place - k) d (omega (arith, less, below, few)) (omega (arith, known))) [
              | inl under ↦ apart-over x (get_or list k d) o (get_or owners (place - k) d) is.owned.inside was.owned.inside under
              | inr over ↦ apart-in x (get_or list k d) o (get_or owners (place - k) d) is.owned.inside was.owned.inside over
            ]));
        whole =
            ap (λ (k : ℕ). ((region_spec c k).shareable && not ((x.start == (owner_of owners x).start) && (x.length == (owner_of owners x).length))) breaks Rule.NotWhole (length (take i list))) is.placed.at
            ∙ ap (λ (y : Extent). ((region_spec c r).shareable && not ((x.start == y.start) && (x.length == y.length))) breaks Rule.NotWhole (length (take i list))) (sym owner)
            ∙ ap (λ (b : Bool). b breaks Rule.NotWhole (length (take i list))) is.owned.whole;
      }

-- a check that none of so many breaks
pub each_fits : {X : Type 0} (check : List X → X → Option Rule) (xs : List X) (n : ℕ) (d : X) → n ≤ length xs → ((i : ℕ) → i < n → check (take i xs) (get_or xs i d) ≡ None) → each_in (take n xs) check ≡ None
each_fits check xs zero d few none = refl
each_fits check xs (suc n) d few none =
    let next : n + 1 ≡ suc n = omega arith in
    ap (λ (k : ℕ). each_in (take k xs) check) (sym next)
    ∙ each_in_more check xs n d (omega (arith, few)) (each_fits check xs n d (omega (arith, few)) (λ i below. none i (omega (arith, below)))) (none n (omega arith))

-- an extent that lies in a region which begins where it does or before
pub placed_in : (c : Configuration) (h : HostId) (r : ℕ) (x : Extent) → IsSound c → h < c.hosts → r < length c.regions → 0 < x.length → lies_in_region c h r x ≡ true → is_aligned c h r x ≡ true → IsPlaced c h r x
placed_in c h r x sound host known some within aligned =
    let first = and_parts (nat_lt r (length c.regions) && nat_le (base_of c h r) x.start) _ within in
    let second = and_parts (nat_lt r (length c.regions)) _ first.0 in
    let ends = leb-true _ _ first.1 in
    record {
      some = some;
      at = region_at_is c h sound host x.start r known (has c h x.start r (leb-true _ _ second.1) (omega (arith, some, ends)));
      placed = λ n. rw (ne_eqb x.length 0 (λ is. omega (arith, some, is)), within, aligned) refl;
    }

-- a region that has the first address
pub begins_at : (c : Configuration) (h : HostId) (r : ℕ) (x : Extent) → IsSound c → h < c.hosts → r < length c.regions → has_address c h x.start r ≡ true → is_shareable_at c h x ≡ (region_spec c r).shareable
begins_at c h r x sound host known has_it = ap (λ (k : ℕ). (region_spec c k).shareable) (region_at_is c h sound host x.start r known has_it)

some_of : (n : ℕ) → not (n == 0) ≡ true → 0 < n
some_of zero holds = absurd (cc)
some_of (suc n) holds = omega arith

-- an extent that has some units of a region's bounds
pub fits_placed : (c : Configuration) (h : HostId) (r : ℕ) (x : Extent) → IsSound c → h < c.hosts → r < length c.regions → fits_area (area_of c h r) x ≡ true → IsPlaced c h r x
fits_placed c h r x sound host known holds =
    let first = and_parts (not (x.length == 0) && has_range (bounds_of c h r) x.start x.length) _ holds in
    let second = and_parts (not (x.length == 0)) _ first.0 in
    let range = and_parts (nat_le (base_of c h r) x.start) _ second.1 in
    placed_in c h r x sound host known (some_of x.length second.0) (and_from _ _ (and_from _ _ (lt-ltb _ _ known) range.0) range.1) first.1

module _ (c : Configuration) (h : HostId) (owners before : List Extent) (x : Extent) (r : ℕ) (at : region_at c h x.start ≡ r) where
  shareable_is : is_shareable_at c h x ≡ (region_spec c r).shareable
  shareable_is = ap (λ (k : ℕ). (region_spec c k).shareable) at

  pub fit_by : IsPlaced c h r x → IsOwnedBehind (region_spec c r).shareable owners before x → Fits c h owners before x
  fit_by placed owned = record {
    placed = ap (λ (k : ℕ). misplaced c h k (length before) x) at ∙ placed.placed (length before);
    inside = owned.inside;
    apart = owned.apart;
    whole =
        ap (λ (b : Bool). (b && not (is_whole owners x)) breaks Rule.NotWhole (length before)) shareable_is
        ∙ ap (λ (b : Bool). b breaks Rule.NotWhole (length before)) owned.whole;
  }

-- one more that fits
pub fits_more : (c : Configuration) (h : HostId) (owners list : List Extent) (i : ℕ) → i < length list → Fits c h owners (take i list) (get_or list i no_extent) → FrontFits c h owners list i → FrontFits c h owners list (i + 1)
fits_more c h owners list i listed next before k d below = elim (cases_lt k i) [
  | inl less ↦ before k d less
  | inr from ↦
      let is : i ≡ k = omega (arith, below, from) in
      subst (λ (j : ℕ). Fits c h owners (take j list) (get_or list j d)) is (subst (Fits c h owners (take i list)) (get_or_default list i no_extent d listed) next)
]

-- what a test that fails says
pub not_true : (b : Bool) → not b ≡ true → b ≡ false
not_true true holds = absurd (cc)
not_true false holds = refl

pub part_none : (shareable whole : Bool) → whole ≡ true → shareable && not whole ≡ false
part_none true whole is = rw is refl
part_none false whole is = refl
