-- A 4802h that breaks no rule keeps what every legal journal keeps.
use Rattle.std.proofs.Common.{◌≡◌, ◌⊎◌, ℕ, ◌+◌, ◌<◌, Bool, true, false, not, ◌&&◌, List, [], ◌∷◌, ◌++◌, length, map, None, refl, ap, sym, subst, ◌∙◌, inl, inr, ltb}
use Rattle.std.{specs.List.AllByRecursion, proofs.lemmas.Bool.false≢true, proofs.lemmas.Bool.ltb-false, proofs.lemmas.Bool.not-false, proofs.lemmas.Bool.and_cases}
use Rattle.cci_codec.specs.dcd_base.specs.{declared.capacity.Extent.Extent, declared.capacity.Tag.Tag, declared.ids.HostId.HostId, Limits.extents_supported, Words.◌or◌, Words.has_tag}
use Rattle.extent_list.specs.ExtentLists.{count_in, is_in, is_whole, marked, tags_of}
use Rattle.extent_list.specs.Listing.{incomplete, is_shareable_at, misplaced, not_whole, overlapping, too_many_extents, too_many_listed}
use Rattle.extent_list.specs.{dcd_codes.specs.Rules.◌breaks◌, dcd_codes.specs.Rules.each_in, dcd_codes.specs.declared.rules.Rule.Rule, media_map.specs.Places.region_at, media_map.specs.Places.run_of}
use Rattle.extent_list.specs.media_map.specs.region_config.specs.{Configurations.Configuration, Granules.region_spec, Granules.with_blocks, Soundness.IsSound}
use Rattle.journal_core.specs.{declared.entries.Entry.Entry, declared.outcome.Effect.Effect, declared.outcome.HeldKind.HeldKind, Entries.effects}
use Rattle.offer_core.specs.{Offerings.oldest_of, Responses.extent_rule, Responses.response_list_rule, Responses.respond_rule}
use Rattle.selection.proofs.{Placed.IsPlaced, Placed.placed, Prescribed.neither}
use Rattle.device_rules.proofs.{Holding.present_whole, Homes.placed_made, Homes.region_at_same, Homes.shareable_same, ListSteps.each-change}
use Rattle.device_rules.proofs.OneAnswer.{IsAnswer, answer_lives, answer_picture, answer_stands, q}
use Rattle.device_rules.proofs.Overlaps.{Spread, not_broken, row_each, row_spread, spread_once}
use Rattle.device_rules.{proofs.Quiet.hold_quiet, proofs.Quiet.quiet_front, proofs.Quiet.quiet_outcome_keeps, proofs.Quiet.unhold_quiet, proofs.Settling.outcome_keeps, specs.Outcomes.effects_of}
use Rattle.device_rules.specs.Pictures.{Picture, lives, picture_after, picture_of}
use Rattle.device_rules.specs.{ResponseOutcomes.respond_changes, ResponseOutcomes.respond_outcome, ResponseOutcomes.unhold, Standing.IsMade, Standing.Sound, Standing.Stands, Views.View, Views.view_of}

-- what the row says of a listed extent
record IsListed (c : Configuration) (b : ℕ → ℕ) (h : HostId) (offer : List Extent) (x : Extent) : Type 0 where
  inside : is_in offer x ≡ true
  made : IsMade c (b (region_at c h x.start)) h (region_at c h x.start) x
  whole : (region_spec c (region_at c h x.start)).shareable ≡ true → is_whole offer x ≡ true

not_needed : (b : Bool) (rule : Rule) → (not b breaks rule) ≡ None → b ≡ true
not_needed b rule none = not-false b (not_broken (not b) rule none)

module _ (c : Configuration) (sound : IsSound c) (p : Picture) (s : Stands c p) (h : HostId) (host : h < c.hosts) (offer : List Extent) where
  listed : (before : List Extent) (x : Extent) → extent_rule (with_blocks c p.block) h offer before x ≡ None → IsListed c p.block h offer x
  listed before x row =
      let w : Configuration = with_blocks c p.block in
      let i : ℕ = length before in
      let p4 = neither _ (not_whole w h offer i x) row in
      let p3 = neither _ (overlapping before x) p4.0 in
      let p2 = neither (misplaced w h (region_at w h x.start) i x) (not (is_in offer x) breaks Rule.NotOffered i) p3.0 in
      let place : IsPlaced (with_blocks c p.block) h (region_at (with_blocks c p.block) h x.start) x = placed w h (region_at w h x.start) i x p2.0 in
      let made : IsMade c (p.block (region_at (with_blocks c p.block) h x.start)) h (region_at (with_blocks c p.block) h x.start) x = placed_made c p.block h (region_at w h x.start) x place in
      let whole = not_broken (is_shareable_at w h x && not (is_whole offer x)) (Rule.NotWhole i) p4.1 in
      let share : is_shareable_at (with_blocks c p.block) h x ≡ (region_spec c (region_at c h x.start)).shareable =
      shareable_same c p.block (region_at w h x.start) ∙ ap (λ r. (region_spec c r).shareable) (region_at_same c p.block h x.start) in
      record {
        inside = not_needed (is_in offer x) (Rule.NotOffered i) p2.1;
        made = subst (λ r. IsMade c (p.block r) h r x) (region_at_same c p.block h x.start) made;
        whole = λ shared. elim (and_cases (is_shareable_at w h x) (not (is_whole offer x)) whole) [
          | inl private ↦ absurd (false≢true (sym private ∙ share ∙ shared))
          | inr is ↦ not-false (is_whole offer x) is
        ];
      }

  apart_before : (before : List Extent) (x : Extent) → extent_rule (with_blocks c p.block) h offer before x ≡ None → overlapping before x ≡ None
  apart_before before x row =
      let w : Configuration = with_blocks c p.block in
      (neither _ (overlapping before x) (neither _ (not_whole w h offer (length before) x) row).0).1

  -- so the row gives an answer
  pub answer_of : (later : List (List Extent)) (all : List Extent) → response_list_rule (with_blocks c p.block) h (length (p.accepted h)) (offer ∷ later) all ≡ None → IsAnswer c p h offer later all
  answer_of later all row =
      let w : Configuration = with_blocks c p.block in
      let check = extent_rule (with_blocks c p.block) h offer in
      let last = neither (each_in all (extent_rule w h offer) or incomplete w h offer all) (too_many_extents (length (p.accepted h) + length all + count_in later)) row in
      let first = neither (each_in all (extent_rule w h offer)) (incomplete w h offer all) last.0 in
      let each : AllByRecursion (IsListed c p.block h offer) all = row_each (extent_rule w h offer) (IsListed c p.block h offer) listed [] all first.0 in
      let spread : Spread [] all = row_spread (extent_rule w h offer) apart_before [] all first.0 in
      let made = each-change (IsListed c p.block h offer) (λ x. IsMade c (p.block (region_at c h x.start)) h (region_at c h x.start) x) (λ x l. l.made) all each in
      record {
        inside = each-change (IsListed c p.block h offer) (λ x. is_in offer x ≡ true) (λ x l. l.inside) all each;
        made = made;
        apart = spread_once c h sound host p.block (present_whole c sound p s) [] all made spread;
        whole = each-change (IsListed c p.block h offer) (λ x. (region_spec c (region_at c h x.start)).shareable ≡ true → is_whole offer x ≡ true) (λ x l. l.whole) all each;
        few = ltb-false _ _ (not_broken (ltb extents_supported (length (p.accepted h) + length all + count_in later)) (Rule.TooManyExtents (length (p.accepted h) + length all + count_in later)) last.1);
      }

-- what the changes leave
record IsResponded (c : Configuration) (p : Picture) (offers : List (List Extent)) (changes : List Effect) : Type 0 where
  stands : Stands c (picture_after c p changes)
  alive : (t : Tag) → has_tag (picture_after c p changes).tags t ≡ true → (lives c (picture_after c p changes) t ≡ true) ⊎ ((has_tag p.tags t ≡ true) × (has_tag (tags_of (oldest_of offers)) t ≡ true))

responded : (c : Configuration) → IsSound c → (p : Picture) → Sound c p → (h : HostId) → h < c.hosts → (offers : List (List Extent)) → p.offers h ≡ offers → (held list : List Extent)
    → respond_rule (with_blocks c p.block) h (length (p.accepted h)) offers held false list ≡ None → IsResponded c p offers (respond_changes c h offers held false list)
responded c sound p before h host [] is held list row =
    let quiet : picture_after c p (unhold h HeldKind.Responses held ++ []) ≡ p = quiet_front c p (unhold h HeldKind.Responses held) [] (unhold_quiet h HeldKind.Responses held) in
    record {
      stands = subst (Stands c) (sym quiet) before.stands;
      alive = λ t e. inl (ap (λ q. lives c q t) quiet ∙ before.live t (ap (λ q. has_tag q.tags t) (sym quiet) ∙ e));
    }
responded c sound p before h host (offer ∷ later) is held list row =
    let all : List Extent = held ++ list in
    let rules = neither (too_many_listed all) (response_list_rule (with_blocks c p.block) h (length (p.accepted h)) (offer ∷ later) all) row in
    let a = answer_of c sound p before.stands h host offer later (held ++ list) rules.1 in
    let told : picture_after c p (unhold h HeldKind.Responses held ++ (Effect.Answer h (map (marked offer) (held ++ list)) ∷ map (λ x. Effect.Take h (run_of c h x)) (held ++ list))) ≡ q c sound p before h host offer later is (held ++ list) a =
    quiet_front c p (unhold h HeldKind.Responses held) (Effect.Answer h (map (marked offer) (held ++ list)) ∷ map (λ x. Effect.Take h (run_of c h x)) (held ++ list)) (unhold_quiet h HeldKind.Responses held)
    ∙ answer_picture c sound p before h host offer later is (held ++ list) a in
    record {
      stands = subst (Stands c) (sym told) (answer_stands c sound p before h host offer later is (held ++ list) a);
      alive = λ t e. (let open_tag : has_tag p.tags t ≡ true = ap (λ r. has_tag r.tags t) (sym told) ∙ e in
          elim (answer_lives c sound p before h host offer later is (held ++ list) a t open_tag) [
            | inl lives_on ↦ inl (ap (λ r. lives c r t) told ∙ lives_on)
            | inr offered ↦ inr (open_tag, offered)
          ]);
    }

-- 4802h keeps it
pub respond_keeps : (c : Configuration) → IsSound c → (journal : List Entry) → Sound c (picture_of c (effects journal)) → (h : HostId) → h < c.hosts → (more : Bool) (list : List Extent)
    → respond_rule (with_blocks c (view_of c h journal).block) h (length (view_of c h journal).accepted) (view_of c h journal).offers (view_of c h journal).responses more list ≡ None
    → Sound c (picture_of c (effects journal ++ effects_of c (effects journal) (respond_outcome c h (view_of c h journal) more list)))
respond_keeps c sound journal before h host true list row = quiet_outcome_keeps c (effects journal) (respond_outcome c h (view_of c h journal) true list) (hold_quiet h HeldKind.Responses list) before
respond_keeps c sound journal before h host false list row =
    let v : View = view_of c h journal in
    let p : Picture = picture_of c (effects journal) in
    let r = responded c sound p before h host v.offers refl v.responses list row in
    outcome_keeps c (effects journal) (respond_outcome c h v false list) r.stands r.alive
