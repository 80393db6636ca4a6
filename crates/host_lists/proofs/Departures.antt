-- Extents of a list that breaks no rule can leave, also with the tags and the sequences that they leave with.
use Rattle.std.proofs.Common.{◌≡◌, ℕ, zero, suc, ◌<◌, Bool, false, not, List, [], ◌∷◌, length, get_or, take, map, None, refl, sym, subst, ◌∙◌, arith, rules}
use Rattle.std.{specs.Prelude.nat_le, proofs.lemmas.List.length-map, proofs.lemmas.List.take-map, proofs.lemmas.List.Folds.list_all-map}
use Rattle.extent_list.specs.{ExtentLists.cut, ExtentLists.cut_all, ExtentLists.marked, ExtentLists.overlaps, Listing.incomplete, Listing.too_many_extents, Listing.too_many_listed}
use Rattle.extent_list.specs.dcd_codes.specs.{Rules.◌breaks◌, dcd_base.specs.Words.◌or◌, dcd_base.specs.Words.is_empty, dcd_base.specs.Words.where_true, dcd_base.specs.declared.capacity.Extent.Extent}
use Rattle.extent_list.specs.{dcd_codes.specs.dcd_base.specs.declared.ids.HostId.HostId, dcd_codes.specs.declared.rules.Rule.Rule, media_map.specs.region_config.specs.Configurations.Configuration}
use Rattle.extent_list.specs.media_map.specs.region_config.specs.Soundness.{IsSound}
use Rattle.release_core.{proofs.FreeToLeave.all_can_leave, proofs.Members.neither, specs.Leaving.AllCanLeave, specs.Leaving.CanLeave, specs.Leaving.count_after, specs.Releases.give_back_rule}
use Rattle.release_core.specs.Removals.{prescribed_removal_rule}

-- ---- with other tags

-- what is cut out is the same, whatever the tags and the sequences
pub cut_all-marked : (owners list xs : List Extent) → cut_all (map (marked owners) list) xs ≡ cut_all list xs
cut_all-marked owners [] xs = refl
cut_all-marked owners (x ∷ list) xs = cut_all-marked owners list (cut x.start x.length xs)

at-map : (f : Extent → Extent) (xs : List Extent) (i : ℕ) (d : Extent) → i < length xs → get_or (map f xs) i d ≡ f (get_or xs i d)
at-map f [] i d known = absurd (omega (arith, known))
at-map f (x ∷ xs) zero d known = refl
at-map f (x ∷ xs) (suc i) d known = at-map f xs i d (omega (arith, known))

one-marked : (owners accepted before : List Extent) (x : Extent) → CanLeave accepted before x → CanLeave accepted (map (marked owners) before) (marked owners x)
one-marked owners accepted before x l = record {
  some = l.some;
  ends = l.ends;
  inside = l.inside;
  apart = list_all-map (λ (y : Extent). not (overlaps x y)) (marked owners) before ∙ l.apart;
}

pub leaves-marked : (owners accepted list : List Extent) → AllCanLeave accepted list → AllCanLeave accepted (map (marked owners) list)
leaves-marked owners accepted list l = record {
  each = λ i d known.
      let within : i < length list = omega (arith, known, length-map list (marked owners)) in
      let at : CanLeave accepted (map (marked owners) (take i list)) (marked owners (get_or list i d)) = one-marked owners accepted (take i list) (get_or list i d) (l.each i d within) in
      subst (λ before. CanLeave accepted before (get_or (map (marked owners) list) i d)) (sym (take-map (marked owners) i list))
      (subst (λ x. CanLeave accepted (map (marked owners) (take i list)) x) (sym (at-map (marked owners) list i d within)) at);
}

-- ---- where no rule is broken

-- the extents that a release lists
pub gives-back : (c : Configuration) (h : HostId) (accepted : List Extent) (offered : ℕ) (whole : List Extent) (more : Bool) → IsSound c → h < c.hosts → more ≡ false
    → give_back_rule c h accepted offered whole more ≡ None → AllCanLeave accepted whole
gives-back c h accepted offered whole more sound host last none =
    let at_last : give_back_rule c h accepted offered whole false ≡ None = subst (λ m. give_back_rule c h accepted offered whole m ≡ None) last none in
    let parts = neither (too_many_listed whole) _ at_last in
    let list = neither _ (too_many_extents (count_after accepted offered whole)) parts.1 in
    let each = (neither _ (incomplete c h accepted whole) list.0).0 in
    search (rules, all_can_leave)

-- the extents that a prescriptive removal lists
pub leaves-listed : (c : Configuration) (h : HostId) (accepted : List Extent) (offered r : ℕ) (list : List Extent) (forced : Bool) → IsSound c → h < c.hosts
    → prescribed_removal_rule c h accepted offered r list forced ≡ None → AllCanLeave accepted list × AllCanLeave accepted (map (marked accepted) list)
leaves-listed c h accepted offered r list forced sound host none =
    let front = neither _ (where_true forced (too_many_extents (count_after accepted offered list))) none in
    let breaks_none = neither (nat_le (length c.regions) r breaks Rule.NoSuchRegion r or is_empty list breaks Rule.EmptyList or too_many_listed list) _ front.0 in
    let each = (neither _ (incomplete c h accepted list) breaks_none.1).0 in
    let leaves : AllCanLeave accepted list = search (rules, all_can_leave) in
    (leaves, leaves-marked accepted accepted list leaves)
