-- The table after extents leave their host: 4803h and 5605h.
use Rattle.std.proofs.Common.{◌≡◌, ℕ, ◌<◌, Bool, true, false, ◌&&◌, not, ◌==◌, List, [], ◌∷◌, ◌++◌, map, length, None, Option, refl, sym, ap, subst, ◌∙◌, inl, inr, leb, ltb}
use Rattle.std.proofs.lemmas.Bool.{cases_Bool, false≢true, leb-false, or_left, or_right}
use Rattle.std.specs.{List.AllByRecursion, List.filter, List.list_any, Prelude.fold, Prelude.if◌then◌else◌}
use Rattle.cci_codec.specs.dcd_base.specs.{Words.◌or◌, Words.has_tag, Words.same_tag, declared.capacity.Extent.Extent, declared.capacity.Tag.Tag, declared.ids.HostId.HostId}
use Rattle.extent_list.specs.ExtentLists.{count_in, cut, cut_all, has_extent_of, marked, owner_of, tags_of}
use Rattle.extent_list.specs.{Listing.incomplete, Listing.too_many_extents, Listing.too_many_listed, dcd_codes.specs.Rules.◌breaks◌, dcd_codes.specs.Rules.each_in}
use Rattle.extent_list.specs.{dcd_codes.specs.declared.rules.Rule.Rule, media_map.specs.Places.region_at, media_map.specs.region_config.specs.Configurations.Configuration}
use Rattle.extent_list.specs.media_map.specs.region_config.specs.{Granules.region_spec, Granules.with_blocks, Soundness.IsSound}
use Rattle.journal_core.specs.declared.outcome.HeldKind.{HeldKind}
use Rattle.release_core.specs.{Leaving.count_after, Releases.give_back_rule, Removals.by_tag_rule, Removals.prescribed_removal_rule, Removals.extents_of_tag}
use Rattle.device_rules.proofs.{AllLeave.IsLeft, AllLeave.all_leave, EffectKinds.removals_pass, GivingBack.leaves_are, GivingBack.marked_removals}
use Rattle.device_rules.proofs.{Going.IsGoing, Going.going_ready, Going.some_going, Going.some_owned, HostOfTagsSet.Told, Leaving.last_offer-over, Leaving.leaves_tags}
use Rattle.device_rules.proofs.{LeftStanding.going_of, LeftStanding.going_rule, LeftStanding.marked_has, OneAnswer.tags_of-has, OneLeave.loose, OpenLive.has_cut, Overlaps.not_broken}
use Rattle.device_rules.{proofs.Quiet.quiet_front, proofs.Quiet.unhold_quiet, proofs.ResponseSteps.told_same, specs.Outcomes.log_full, specs.Pictures.Picture, specs.Pictures.picture_after}
use Rattle.device_rules.specs.ReleaseOutcomes.{give_back_changes, is_cleaning, is_forced, leaves, policy_in, removals, remove_rule, removed}
use Rattle.device_rules.specs.{ResponseOutcomes.unhold, Standing.Sound, Tags.last_offer_after, Tags.tag_region, Tags.tag_runs, Views.View}
use Rattle.selection.proofs.Prescribed.{neither}

pub both_ways : (a b : Bool) → (a ≡ true → b ≡ true) → (b ≡ true → a ≡ true) → a ≡ b
both_ways true b there back = sym (there refl)
both_ways false true there back = back refl
both_ways false false there back = refl

-- what is left of a list has no other tags
has_cut_all : (t : Tag) (ys xs : List Extent) → has_extent_of t (cut_all ys xs) ≡ true → has_extent_of t xs ≡ true
has_cut_all t [] xs e = e
has_cut_all t (y ∷ ys) xs e = has_cut t y.start y.length xs (has_cut_all t ys (cut y.start y.length xs) e)

-- removals offer nothing
last_removals : (c : Configuration) (h : HostId) (clean : Bool) (ys : List Extent) (t : Tag) (last : Option (HostId × List Extent)) → fold (last_offer_after t) last (removals c h clean ys) ≡ last
last_removals c h clean ys t last = last_offer-over t last (removals c h clean ys) (removals_pass leaves_tags h (λ run. refl) (λ run. refl) c true clean ys)

-- What the extents leave: the tags that they have not, and all open tags open.
pub record IsGone (c : Configuration) (h : HostId) (told : List Tag) (p q : Picture) : Type 0 where
  pub told_is : Told c h told p q
  pub tags_are : q.tags ≡ p.tags

module _ (c : Configuration) (sound : IsSound c) (p : Picture) (before : Sound c p) (h : HostId) (host : h < c.hosts) where
  left_told : (W : Extent → Type 0) (of_shared : (y : Extent) → (region_spec c (region_at c h y.start)).shareable ≡ true → W y) (clean : Bool) (ys : List Extent) (told : List Tag) →
      IsLeft c sound h host (λ y. (owner_of (p.accepted h) y).tag) W of_shared p (picture_after c p (removals c h clean ys)) ys →
      ((t : Tag) → list_any (λ y. same_tag (owner_of (p.accepted h) y).tag t) ys ≡ true → has_tag told t ≡ true) →
      IsGone c h told p (picture_after c p (removals c h clean ys))
  left_told W of_shared clean ys told left theirs = let q : Picture = picture_after c p (removals c h clean ys) in record {
    told_is = record {
      region = λ t open_tag. ap (tag_region c) (last_removals c h clean ys t (p.last t));
      runs = λ t open_tag. ap (tag_runs c) (last_removals c h clean ys t (p.last t));
      referenced = left.same_references;
      accepted_others = left.same_accepted;
      offers_others = λ k other. left.same_offers k;
      accepted_kept = λ t open_tag untold. both_ways (has_extent_of t (q.accepted h)) (has_extent_of t (p.accepted h))
          (λ e. has_cut_all t ys (p.accepted h) (ap (has_extent_of t) (sym left.accepted) ∙ e))
          (λ e. elim (left.kept t e) [
            | inl still ↦ still
            | inr gone ↦ absurd (false≢true (sym untold ∙ theirs t gone))
          ]);
      offers_kept = λ t open_tag untold. ap (list_any (has_extent_of t)) (left.same_offers h);
    };
    tags_are = left.same_tags;
  }

  -- extents that may leave
  pub going_told : (clean : Bool) (ys : List Extent) (told : List Tag) → IsGoing c p h ys →
      ((t : Tag) → list_any (λ y. same_tag (owner_of (p.accepted h) y).tag t) ys ≡ true → has_tag told t ≡ true) → IsGone c h told p (picture_after c p (removals c h clean ys))
  going_told clean ys told going theirs =
      let s = loose c p before.stands in
      let W : Extent → Type 0 = λ y. (region_spec c (region_at c h y.start)).shareable ≡ true in
      let same : (y : Extent) → (region_spec c (region_at c h y.start)).shareable ≡ true → (region_spec c (region_at c h y.start)).shareable ≡ true = λ y shared. shared in
      left_told W same clean ys told
      (all_leave c sound h host (λ y. (owner_of (p.accepted h) y).tag) W same clean ys p s (going_ready c sound p s h host W ys going going.whole same)) theirs

  -- ---- 4803h

  pub release_told : (held list : List Extent) → give_back_rule (with_blocks c p.block) h (p.accepted h) (count_in (p.offers h)) (held ++ list) false ≡ None →
      IsGone c h (tags_of (map (marked (p.accepted h)) (held ++ list))) p (picture_after c p (give_back_changes c h held false list))
  release_told held list row =
      let acc : List Extent = p.accepted h in
      let ys : List Extent = held ++ list in
      let w : Configuration = with_blocks c p.block in
      let rules = neither (too_many_listed ys) ((each_in ys (going_rule w h acc (λ x. region_at w h x.start)) or incomplete w h acc ys) or too_many_extents (count_after acc (count_in (p.offers h)) ys)) row in
      let inner = neither ((each_in ys (going_rule w h acc (λ x. region_at w h x.start)) or incomplete w h acc ys)) (too_many_extents (count_after acc (count_in (p.offers h)) ys)) rules.1 in
      let going = going_of c sound p before.stands h host (λ x. region_at w h x.start) ys inner.0 in
      let told : picture_after c p (unhold h HeldKind.Releases held ++ leaves c h ys) ≡ picture_after c p (removals c h false ys) =
      quiet_front c p (unhold h HeldKind.Releases held) (leaves c h ys) (unhold_quiet h HeldKind.Releases held) ∙ ap (picture_after c p) (sym (leaves_are c h ys)) in
      subst (IsGone c h (tags_of (map (marked acc) ys)) p) (sym told) (going_told false ys (tags_of (map (marked acc) ys)) going (marked_has acc ys))

  -- ---- 5605h

  own_tags : (ys : List Extent) → AllByRecursion (λ y. owner_of (p.accepted h) y ≡ y) ys → (t : Tag) → list_any (λ y. same_tag (owner_of (p.accepted h) y).tag t) ys ≡ true → has_extent_of t ys ≡ true
  own_tags [] each t e = e
  own_tags (y ∷ ys) each t e = elim (cases_Bool (same_tag (owner_of (p.accepted h) y).tag t)) [
    | inl here ↦ or_left (same_tag y.tag t) (has_extent_of t ys) (ap (λ (z : Extent). same_tag z.tag t) (sym each.0) ∙ here)
    | inr other ↦ or_right (same_tag y.tag t) (has_extent_of t ys) (own_tags ys each.1 t (rw other at e))
  ]

  -- by tag
  tag_told : (clean : Bool) (tag : Tag) → IsGone c h (tags_of (extents_of_tag tag (p.accepted h))) p (picture_after c p (removals c h clean (extents_of_tag tag (p.accepted h))))
  tag_told clean tag =
      let s = loose c p before.stands in
      let test : Extent → Bool = λ x. same_tag x.tag tag in
      let ys : List Extent = filter test (p.accepted h) in
      going_told clean ys (tags_of ys) (some_going c sound p s h host test) (λ t e. tags_of-has ys t (own_tags ys (some_owned c sound p s h host test) t e))

  -- prescriptive
  listed_told : (clean : Bool) (r : ℕ) (list : List Extent) → prescribed_removal_rule (with_blocks c p.block) h (p.accepted h) (count_in (p.offers h)) r list true ≡ None →
      IsGone c h (tags_of (map (marked (p.accepted h)) list)) p (picture_after c p (removals c h clean (map (marked (p.accepted h)) list)))
  listed_told clean r list row =
      let w : Configuration = with_blocks c p.block in
      let acc : List Extent = p.accepted h in
      let p5 = neither _ (too_many_extents (count_after (p.accepted h) (count_in (p.offers h)) list)) row in
      let p4 = neither _ (each_in list (going_rule w h acc (λ x. r)) or incomplete w h acc list) p5.0 in
      let going = going_of c sound p before.stands h host (λ x. r) list p4.1 in
      let told : picture_after c p (removals c h clean (map (marked acc) list)) ≡ picture_after c p (removals c h clean list) = ap (picture_after c p) (marked_removals c h clean acc list) in
      subst (IsGone c h (tags_of (map (marked acc) list)) p) (sym told) (going_told clean list (tags_of (map (marked acc) list)) going (marked_has acc list))

  forced_told : (clean by_tag : Bool) (r : ℕ) (tag : Tag) (list : List Extent) →
      (if by_tag then by_tag_rule (p.accepted h) tag else prescribed_removal_rule (with_blocks c p.block) h (p.accepted h) (count_in (p.offers h)) r list true) ≡ None →
      IsGone c h (tags_of (if by_tag then extents_of_tag tag (p.accepted h) else map (marked (p.accepted h)) list)) p
      (picture_after c p (removals c h clean (if by_tag then extents_of_tag tag (p.accepted h) else map (marked (p.accepted h)) list)))
  forced_told clean true r tag list row = tag_told clean tag
  forced_told clean false r tag list row = listed_told clean r list row

  -- by force or not
  pub removal_told : (forced clean by_tag : Bool) (r : ℕ) (tag : Tag) (list : List Extent) →
      (if by_tag then by_tag_rule (p.accepted h) tag else prescribed_removal_rule (with_blocks c p.block) h (p.accepted h) (count_in (p.offers h)) r list forced) ≡ None →
      IsGone c h (tags_of (if by_tag then extents_of_tag tag (p.accepted h) else map (marked (p.accepted h)) list)) p
      (picture_after c p (if forced then removals c h clean (if by_tag then extents_of_tag tag (p.accepted h) else map (marked (p.accepted h)) list) else []))
  removal_told true clean by_tag r tag list row = forced_told clean by_tag r tag list row
  removal_told false clean by_tag r tag list row = record {
    told_is = told_same c h (tags_of (if by_tag then extents_of_tag tag (p.accepted h) else map (marked (p.accepted h)) list)) p;
    tags_are = refl;
  }

-- the row of a removal
pub record IsRemovalRow (c : Configuration) (v : View) (h flags r : ℕ) (tag : Tag) (list : List Extent) : Type 0 where
  pub host : h < c.hosts
  pub inner : (if policy_in flags == 0 then by_tag_rule v.accepted tag else prescribed_removal_rule (with_blocks c v.block) h v.accepted (count_in v.offers) r list (is_forced flags)) ≡ None

pub removal_row : (c : Configuration) (view_for : HostId → View) (h flags r : ℕ) (tag : Tag) (list : List Extent) → remove_rule c view_for h flags r tag list ≡ None → IsRemovalRow c (view_for h) h flags r tag list
removal_row c view_for h flags r tag list row =
    let v : View = view_for h in
    let by_row = if policy_in flags == 0 then by_tag_rule v.accepted tag else prescribed_removal_rule (with_blocks c v.block) h v.accepted (count_in v.offers) r list (is_forced flags) in
    let p5 = neither _ (log_full h v.log (length (removed v.accepted flags tag list))) row in
    let p4 = neither _ by_row p5.0 in
    let p3 = neither _ (ltb 1 (policy_in flags) breaks Rule.NoSuchPolicy (policy_in flags)) p4.0 in
    let p2 = neither (leb c.hosts h breaks Rule.NoSuchHost h) ((is_cleaning flags && not (is_forced flags)) breaks Rule.UnsupportedFlag) p3.0 in
    record { host = leb-false _ _ (not_broken (leb c.hosts h) (Rule.NoSuchHost h) p2.0); inner = p4.1 }
