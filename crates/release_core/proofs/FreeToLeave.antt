-- Extents that break no rule can leave.
use Rattle.std.proofs.Common.{◌≡◌, ℕ, ◌+◌, ◌<◌, ◌≤◌, Bool, true, not, ltb, leb, List, [], ◌∷◌, length, Option, Some, None, option_map, refl, inl, inr, arith, lt-ltb}
use Rattle.std.proofs.lemmas.Bool.{and_parts, cases_Bool, cases_lt, leb-true, ltb-true, eqb-false, not-false}
use Rattle.std.specs.{List.list_all, List.position_or_len, Prelude.◌==◌, Prelude.position}
use Rattle.extent_list.specs.{ExtentLists.is_in, ExtentLists.overlaps, Listed.region_for, Listing.is_aligned, Listing.lies_in_region, Listing.misplaced, Listing.not_whole, Listing.overlapping}
use Rattle.extent_list.specs.dcd_codes.specs.{Rules.◌breaks◌, Rules.each_in, dcd_base.specs.declared.capacity.Extent.Extent, dcd_base.specs.declared.ids.HostId.HostId, declared.rules.Rule.Rule}
use Rattle.extent_list.specs.{declared.listed.Within.Within, media_map.specs.region_config.proofs.Faultless.region_ends, media_map.specs.region_config.specs.Configurations.Configuration}
use Rattle.extent_list.specs.media_map.specs.region_config.specs.{Granules.base_of, Granules.region_spec, Soundness.IsSound}
use Rattle.release_core.{specs.Leaving.AllCanLeave, specs.Leaving.CanLeave, specs.Leaving.leaving_rule, proofs.Members.each_in_at, proofs.Members.neither, proofs.Members.passes}

-- no earlier extent shares an address with x
none_found : (p : Extent → Bool) (ys : List Extent) → position p ys ≡ None → length ys ≤ position_or_len p ys
none_found p ys none = elim (cases_lt (position_or_len p ys) (length ys)) [
  | inl less ↦ (let test = lt-ltb _ _ less in absurd (cc (rw test at none)))
  | inr end ↦ end
]

all_apart : (x : Extent) (ys : List Extent) → length ys ≤ position_or_len (overlaps x) ys → list_all (λ y. not (overlaps x y)) ys ≡ true
all_apart x [] end = refl
all_apart x (y ∷ ys) end = elim (cases_Bool (overlaps x y)) [
  | inl shares ↦ absurd (omega (arith, rw shares at end))
  | inr apart ↦ rw apart (all_apart x ys (omega (arith, rw apart at end)))
]

no_overlap : (n : ℕ) (found : Option ℕ) → option_map (λ j. Rule.Overlap n j) found ≡ None → found ≡ None
no_overlap n None none = refl
no_overlap n (Some j) none = absurd (cc)

-- an extent that breaks no rule can leave
can_leave : (c : Configuration) (h : HostId) (accepted : List Extent) (bounds : Within) (before : List Extent) (x : Extent) → IsSound c → h < c.hosts → leaving_rule c h accepted bounds before x ≡ None → CanLeave accepted before x
can_leave c h accepted bounds before x sound host none =
    let r = region_for c h bounds x in
    let n = length before in
    let p2 = neither _ (not_whole c h accepted n x) none in
    let p1 = neither _ (overlapping before x) p2.0 in
    let p0 = neither (misplaced c h r n x) (not (is_in accepted x) breaks Rule.NotAccepted n) p1.0 in
    let q1 = neither _ (not (is_aligned c h r x) breaks Rule.Unaligned n) p0.0 in
    let q0 = neither ((x.length == 0) breaks Rule.ZeroLength n) (not (lies_in_region c h r x) breaks Rule.OutsideRegion n) q1.0 in
    let nonzero = eqb-false _ _ (passes _ _ q0.0) in
    let w1 = and_parts _ (leb (x.start + x.length) (base_of c h r + (region_spec c r).length)) (not-false _ (passes _ _ q0.1)) in
    let w0 = and_parts (ltb r (length c.regions)) (leb (base_of c h r) x.start) w1.0 in
    record {
      some = omega (arith, nonzero);
      ends = omega (arith, leb-true _ _ w1.1, region_ends c h r sound host (ltb-true _ _ w0.0));
      inside = not-false _ (passes _ _ p0.1);
      apart = all_apart x before (none_found (overlaps x) before (no_overlap n _ p1.1));
    }

pub all_can_leave : (c : Configuration) (h : HostId) (accepted : List Extent) (bounds : Within) (list : List Extent) → IsSound c → h < c.hosts → each_in list (leaving_rule c h accepted bounds) ≡ None → AllCanLeave accepted list
all_can_leave c h accepted bounds list sound host none =
    record { each = λ i d known. can_leave c h accepted bounds _ _ sound host (each_in_at (leaving_rule c h accepted bounds) list i d known none) }
