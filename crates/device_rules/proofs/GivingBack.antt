-- A 4803h or a 5605h that breaks no rule keeps what every legal journal keeps.
use Rattle.std.proofs.Common.{◌≡◌, ◌⊎◌, ℕ, ◌<◌, ◌≤◌, Bool, true, false, not, ◌&&◌, ◌==◌, List, [], ◌∷◌, ◌++◌, length, map, None, refl, ap, sym, subst, ◌∙◌, inl, inr, arith, leb, ltb, length-append}
use Rattle.std.proofs.lemmas.{Bool.cases_Bool, Bool.leb-false, Bool.ltb-false, Bool.or_left, Bool.or_right, List.Concat.length-flat_map}
use Rattle.std.specs.{List.AllByRecursion, List.filter, List.list_all, List.list_any, Prelude.flat_map, Prelude.if◌then◌else◌}
use Rattle.cci_codec.specs.dcd_base.specs.{declared.capacity.Extent.Extent, declared.capacity.Tag.Tag, declared.ids.HostId.HostId, Limits.extents_supported, Words.◌or◌, Words.has_tag, Words.same_tag}
use Rattle.extent_list.specs.ExtentLists.{count_in, has_extent_of, is_whole, marked, owner_of, tags_of}
use Rattle.extent_list.specs.{Listing.incomplete, Listing.too_many_extents, Listing.too_many_listed, dcd_codes.specs.Rules.◌breaks◌, dcd_codes.specs.Rules.each_in}
use Rattle.extent_list.specs.{dcd_codes.specs.declared.rules.Rule.Rule, media_map.specs.Places.region_at, media_map.specs.Places.run_of}
use Rattle.extent_list.specs.media_map.specs.region_config.specs.{Configurations.Configuration, Granules.region_spec, Granules.with_blocks, Soundness.IsSound}
use Rattle.journal_core.specs.{declared.entries.Entry.Entry, declared.outcome.Effect.Effect, declared.outcome.HeldKind.HeldKind, Entries.effects}
use Rattle.release_core.specs.{Leaving.count_after, Releases.give_back_rule, Removals.by_tag_rule, Removals.prescribed_removal_rule, Removals.extents_of_tag}
use Rattle.device_rules.proofs.{AllLeave.all_leave, Going.IsGoing, Going.going_ready, Going.own_whole, Going.some_going, Going.some_owned}
use Rattle.device_rules.proofs.{LeftStanding.going_of, LeftStanding.going_rule, LeftStanding.left_lives, LeftStanding.left_stands, LeftStanding.marked_has, ListSteps.each-change}
use Rattle.device_rules.proofs.{OneAnswer.tags_of-has, OneLeave.loose, Overlaps.not_broken, Quiet.hold_quiet, Quiet.is_quiet, Quiet.quiet_front, Quiet.quiet_outcome_keeps, Quiet.unhold_quiet}
use Rattle.device_rules.{proofs.Settling.outcome_keeps, specs.Outcomes.effects_of, specs.Outcomes.log_full}
use Rattle.device_rules.specs.{Pictures.Picture, Pictures.lives, Pictures.picture_after, Pictures.picture_of, ResponseOutcomes.unhold, Standing.Sound, Standing.Stands, Views.View, Views.view_of}
use Rattle.device_rules.specs.ReleaseOutcomes.{give_back_outcome, is_cleaning, is_forced, leaves, policy_in, removals, remove_outcome, remove_rule, removed, soils}
use Rattle.selection.proofs.Prescribed.{neither}

-- leaves are removals that do not clean
pub leaves_are : (c : Configuration) (h : HostId) (xs : List Extent) → removals c h false xs ≡ leaves c h xs
leaves_are c h [] = refl
leaves_are c h (x ∷ xs) = ap (λ es. Effect.Leave h (run_of c h x) ∷ es) (leaves_are c h xs)

-- and those of marked extents are those of the extents
pub marked_removals : (c : Configuration) (h : HostId) (clean : Bool) (accepted xs : List Extent) → removals c h clean (map (marked accepted) xs) ≡ removals c h clean xs
marked_removals c h clean accepted [] = refl
marked_removals c h clean accepted (x ∷ xs) = ap (λ es. Effect.Leave h (run_of c h x) ∷ soils clean (run_of c h x) ++ es) (marked_removals c h clean accepted xs)

-- what removals leave
record IsRemoved (c : Configuration) (p : Picture) (h : HostId) (ys : List Extent) (changes : List Effect) : Type 0 where
  stands : Stands c (picture_after c p changes)
  alive : (t : Tag) → has_tag (picture_after c p changes).tags t ≡ true → (lives c (picture_after c p changes) t ≡ true) ⊎ ((has_tag p.tags t ≡ true) × (list_any (λ y. same_tag (owner_of (p.accepted h) y).tag t) ys ≡ true))

module _ (c : Configuration) (sound : IsSound c) (p : Picture) (before : Sound c p) (h : HostId) (host : h < c.hosts) where
  -- where few extents are left
  listed_removed : (clean : Bool) (ys : List Extent) → IsGoing c p h ys → count_after (p.accepted h) (count_in (p.offers h)) ys ≤ extents_supported → IsRemoved c p h ys (removals c h clean ys)
  listed_removed clean ys going few =
      let s = loose c p before.stands in
      let W : Extent → Type 0 = λ y. (region_spec c (region_at c h y.start)).shareable ≡ true in
      let same : (y : Extent) → (region_spec c (region_at c h y.start)).shareable ≡ true → (region_spec c (region_at c h y.start)).shareable ≡ true = λ y shared. shared in
      let q : Picture = picture_after c p (removals c h clean ys) in
      let left = all_leave c sound h host (λ y. (owner_of (p.accepted h) y).tag) W same clean ys p s (going_ready c sound p s h host W ys going going.whole same) in
      record {
        stands = left_stands c sound p before h host W same q ys left (omega (arith, few, ap length left.accepted));
        alive = left_lives c sound p before h host W same q ys left;
      }

  -- where whole ones leave there are no more
  whole_removed : (clean : Bool) (test : Extent → Bool) → IsRemoved c p h (filter test (p.accepted h)) (removals c h clean (filter test (p.accepted h)))
  whole_removed clean test =
      let s = loose c p before.stands in
      let ys : List Extent = filter test (p.accepted h) in
      let W : Extent → Type 0 = λ y. Unit {0} in
      let same : (y : Extent) → (region_spec c (region_at c h y.start)).shareable ≡ true → Unit {0} = λ y shared. tt in
      let q : Picture = picture_after c p (removals c h clean ys) in
      let wholes = each-change (λ y. owner_of (p.accepted h) y ≡ y) (λ y. Unit {0} → is_whole (p.accepted h) y ≡ true) (λ y is _. own_whole c sound p s h host y is) ys (some_owned c sound p s h host test) in
      let left = all_leave c sound h host (λ y. (owner_of (p.accepted h) y).tag) W same clean ys p s (going_ready c sound p s h host W ys (some_going c sound p s h host test) wholes same) in
      let offered : length (flat_map (λ xs. xs) (p.offers h)) ≡ count_in (p.offers h) = length-flat_map (λ xs. xs) (p.offers h) in
      record {
        stands = left_stands c sound p before h host W same q ys left (omega (arith, left.short (λ y. tt), before.stands.few h, length-append (p.accepted h) (flat_map (λ xs. xs) (p.offers h)), offered));
        alive = left_lives c sound p before h host W same q ys left;
      }

-- 4803h keeps it
pub give_back_keeps : (c : Configuration) → IsSound c → (journal : List Entry) → Sound c (picture_of c (effects journal)) → (h : HostId) → h < c.hosts → (more : Bool) (list : List Extent)
    → give_back_rule (with_blocks c (view_of c h journal).block) h (view_of c h journal).accepted (count_in (view_of c h journal).offers) ((view_of c h journal).releases ++ list) more ≡ None
    → Sound c (picture_of c (effects journal ++ effects_of c (effects journal) (give_back_outcome c h (view_of c h journal) more list)))
give_back_keeps c sound journal before h host true list row = quiet_outcome_keeps c (effects journal) (give_back_outcome c h (view_of c h journal) true list) (hold_quiet h HeldKind.Releases list) before
give_back_keeps c sound journal before h host false list row =
    let v : View = view_of c h journal in
    let p : Picture = picture_of c (effects journal) in
    let ys : List Extent = v.releases ++ list in
    let w : Configuration = with_blocks c v.block in
    let rules = neither (too_many_listed ys) ((each_in ys (going_rule w h v.accepted (λ x. region_at w h x.start)) or incomplete w h v.accepted ys) or too_many_extents (count_after v.accepted (count_in v.offers) ys)) row in
    let inner = neither ((each_in ys (going_rule w h v.accepted (λ x. region_at w h x.start)) or incomplete w h v.accepted ys)) (too_many_extents (count_after v.accepted (count_in v.offers) ys)) rules.1 in
    let going = going_of c sound p before.stands h host (λ x. region_at w h x.start) ys inner.0 in
    let few = ltb-false _ _ (not_broken (ltb extents_supported (count_after v.accepted (count_in v.offers) ys)) (Rule.TooManyExtents (count_after v.accepted (count_in v.offers) ys)) inner.1) in
    let removed_now = listed_removed c sound p before h host false ys going few in
    let told : picture_after c p (unhold h HeldKind.Releases v.releases ++ leaves c h ys) ≡ picture_after c p (removals c h false ys) =
    quiet_front c p (unhold h HeldKind.Releases v.releases) (leaves c h ys) (unhold_quiet h HeldKind.Releases v.releases) ∙ ap (picture_after c p) (sym (leaves_are c h ys)) in
    outcome_keeps c (effects journal) (give_back_outcome c h v false list) (subst (Stands c) (sym told) removed_now.stands)
    (λ t e. elim (removed_now.alive t (ap (λ q. has_tag q.tags t) (sym told) ∙ e)) [
      | inl it ↦ inl (ap (λ q. lives c q t) told ∙ it)
      | inr gone ↦ inr (gone.0, marked_has v.accepted ys t gone.1)
    ])

-- ---- 5605h

-- what a removal by force leaves, and which tags are told
record IsForced (c : Configuration) (p : Picture) (h : HostId) (all : List Extent) (changes : List Effect) : Type 0 where
  stands : Stands c (picture_after c p changes)
  alive : (t : Tag) → has_tag (picture_after c p changes).tags t ≡ true → (lives c (picture_after c p changes) t ≡ true) ⊎ ((has_tag p.tags t ≡ true) × (has_tag (tags_of all) t ≡ true))

module _ (c : Configuration) (sound : IsSound c) (p : Picture) (before : Sound c p) (h : HostId) (host : h < c.hosts) (clean : Bool) where
  -- by tag
  forced_by_tag : (tag : Tag) → IsForced c p h (extents_of_tag tag (p.accepted h)) (removals c h clean (extents_of_tag tag (p.accepted h)))
  forced_by_tag tag =
      let test : Extent → Bool = λ x. same_tag x.tag tag in
      let ys : List Extent = filter test (p.accepted h) in
      let r = whole_removed c sound p before h host clean test in
      record {
        stands = r.stands;
        alive = λ t e. elim (r.alive t e) [
          | inl it ↦ inl it
          | inr gone ↦ inr (gone.0, tags_of-has ys t (own_tags ys (some_owned c sound p (loose c p before.stands) h host test) t gone.1))
        ];
      }
    where
      own_tags : (ys : List Extent) → AllByRecursion (λ y. owner_of (p.accepted h) y ≡ y) ys → (t : Tag) → list_any (λ y. same_tag (owner_of (p.accepted h) y).tag t) ys ≡ true → has_extent_of t ys ≡ true
      own_tags [] each t e = e
      own_tags (y ∷ ys) each t e = elim (cases_Bool (same_tag (owner_of (p.accepted h) y).tag t)) [
        | inl here ↦ or_left (same_tag y.tag t) (has_extent_of t ys) (ap (λ (z : Extent). same_tag z.tag t) (sym each.0) ∙ here)
        | inr other ↦ or_right (same_tag y.tag t) (has_extent_of t ys) (own_tags ys each.1 t (rw other at e))
      ]

  -- prescriptive
  forced_listed : (r : ℕ) (list : List Extent) → prescribed_removal_rule (with_blocks c p.block) h (p.accepted h) (count_in (p.offers h)) r list true ≡ None
      → IsForced c p h (map (marked (p.accepted h)) list) (removals c h clean (map (marked (p.accepted h)) list))
  forced_listed r list row =
      let w : Configuration = with_blocks c p.block in
      let acc : List Extent = p.accepted h in
      let count : ℕ = count_after (p.accepted h) (count_in (p.offers h)) list in
      let p5 = neither _ (too_many_extents (count_after (p.accepted h) (count_in (p.offers h)) list)) row in
      let p4 = neither _ (each_in list (going_rule w h acc (λ x. r)) or incomplete w h acc list) p5.0 in
      let going = going_of c sound p before.stands h host (λ x. r) list p4.1 in
      let few = ltb-false _ _ (not_broken (ltb extents_supported (count_after (p.accepted h) (count_in (p.offers h)) list)) (Rule.TooManyExtents (count_after (p.accepted h) (count_in (p.offers h)) list)) p5.1) in
      let done = listed_removed c sound p before h host clean list going few in
      let told : picture_after c p (removals c h clean (map (marked (p.accepted h)) list)) ≡ picture_after c p (removals c h clean list) = ap (picture_after c p) (marked_removals c h clean (p.accepted h) list) in
      record {
        stands = subst (Stands c) (sym told) done.stands;
        alive = λ t e. elim (done.alive t (ap (λ q. has_tag q.tags t) (sym told) ∙ e)) [
          | inl it ↦ inl (ap (λ q. lives c q t) told ∙ it)
          | inr gone ↦ inr (gone.0, marked_has (p.accepted h) list t gone.1)
        ];
      }

  forced : (by_tag : Bool) (r : ℕ) (tag : Tag) (list : List Extent)
      → (if by_tag then by_tag_rule (p.accepted h) tag else prescribed_removal_rule (with_blocks c p.block) h (p.accepted h) (count_in (p.offers h)) r list true) ≡ None
      → IsForced c p h (if by_tag then extents_of_tag tag (p.accepted h) else map (marked (p.accepted h)) list) (removals c h clean (if by_tag then extents_of_tag tag (p.accepted h) else map (marked (p.accepted h)) list))
  forced true r tag list row = forced_by_tag tag
  forced false r tag list row = forced_listed r list row

-- 5605h keeps it
pub remove_keeps : (c : Configuration) → IsSound c → (journal : List Entry) → Sound c (picture_of c (effects journal)) → (h : HostId) (flags r bytes : ℕ) (tag : Tag) (list : List Extent)
    → remove_rule c (λ k. view_of c k journal) h flags r tag list ≡ None
    → Sound c (picture_of c (effects journal ++ effects_of c (effects journal) (remove_outcome c (λ k. view_of c k journal) h flags tag list)))
remove_keeps c sound journal before h flags r bytes tag list row =
    let v : View = view_of c h journal in
    let p : Picture = picture_of c (effects journal) in
    let by_tag : Bool = policy_in flags == 0 in
    let by_row = if policy_in flags == 0 then by_tag_rule v.accepted tag else prescribed_removal_rule (with_blocks c v.block) h v.accepted (count_in v.offers) r list (is_forced flags) in
    let p5 = neither _ (log_full h v.log (length (removed v.accepted flags tag list))) row in
    let p4 = neither _ by_row p5.0 in
    let p3 = neither _ (ltb 1 (policy_in flags) breaks Rule.NoSuchPolicy (policy_in flags)) p4.0 in
    let p2 = neither (leb c.hosts h breaks Rule.NoSuchHost h) ((is_cleaning flags && not (is_forced flags)) breaks Rule.UnsupportedFlag) p3.0 in
    let host = leb-false _ _ (not_broken (leb c.hosts h) (Rule.NoSuchHost h) p2.0) in
    by_force (is_forced flags) refl host p4.1
  where
    by_force : (force : Bool) → is_forced flags ≡ force → h < c.hosts → (if policy_in flags == 0 then by_tag_rule (view_of c h journal).accepted tag else prescribed_removal_rule (with_blocks c (view_of c h journal).block) h (view_of c h journal).accepted (count_in (view_of c h journal).offers) r list (is_forced flags)) ≡ None
        → Sound c (picture_of c (effects journal ++ effects_of c (effects journal) (remove_outcome c (λ k. view_of c k journal) h flags tag list)))
    by_force false is host inner =
        let none_changed : (remove_outcome c (λ k. view_of c k journal) h flags tag list).changes ≡ [] = ap (λ b. if b then removals c h (is_cleaning flags) (removed (view_of c h journal).accepted flags tag list) else []) is in
        quiet_outcome_keeps c (effects journal) (remove_outcome c (λ k. view_of c k journal) h flags tag list) (ap (list_all is_quiet) none_changed) before
    by_force true is host inner =
        let p : Picture = picture_of c (effects journal) in
        let all : List Extent = removed (view_of c h journal).accepted flags tag list in
        let changed : (remove_outcome c (λ k. view_of c k journal) h flags tag list).changes ≡ removals c h (is_cleaning flags) (removed (view_of c h journal).accepted flags tag list) =
        ap (λ b. if b then removals c h (is_cleaning flags) (removed (view_of c h journal).accepted flags tag list) else []) is in
        let f = forced c sound p before h host (is_cleaning flags) (policy_in flags == 0) r tag list
        (ap (λ b. if policy_in flags == 0 then by_tag_rule (view_of c h journal).accepted tag else prescribed_removal_rule (with_blocks c (view_of c h journal).block) h (view_of c h journal).accepted (count_in (view_of c h journal).offers) r list b) (sym is) ∙ inner) in
        let told : picture_after c p (remove_outcome c (λ k. view_of c k journal) h flags tag list).changes ≡ picture_after c p (removals c h (is_cleaning flags) (removed (view_of c h journal).accepted flags tag list)) = ap (picture_after c p) changed in
        outcome_keeps c (effects journal) (remove_outcome c (λ k. view_of c k journal) h flags tag list) (subst (Stands c) (sym told) f.stands)
        (λ t e. elim (f.alive t (ap (λ q. has_tag q.tags t) (sym told) ∙ e)) [
          | inl it ↦ inl (ap (λ q. lives c q t) told ∙ it)
          | inr gone ↦ inr gone
        ])
