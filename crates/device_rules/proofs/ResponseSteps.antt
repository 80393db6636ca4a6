-- The table after a host's response to its oldest offer: 4802h.
use Rattle.std.proofs.Common.{◌≡◌, ◌<◌, Bool, true, false, ◌||◌, List, [], ◌∷◌, ◌++◌, map, length, None, refl, sym, ap, subst, ◌∙◌}
use Rattle.std.{proofs.lemmas.Bool.eq-eqb, proofs.lemmas.Bool.false≢true, proofs.lemmas.Bool.false_from_ne_true, proofs.lemmas.List.Folds.list_any-append, specs.List.list_any}
use Rattle.std.specs.Prelude.{drop, fold, if◌then◌else◌}
use Rattle.cci_codec.specs.dcd_base.specs.{Words.has_tag, Words.same_tag, declared.capacity.Extent.Extent, declared.capacity.Tag.Tag, declared.ids.HostId.HostId}
use Rattle.extent_list.specs.{ExtentLists.has_extent_of, ExtentLists.marked, ExtentLists.tags_of, Listing.too_many_listed, media_map.specs.Places.run_of}
use Rattle.extent_list.specs.media_map.specs.region_config.specs.{Configurations.Configuration, Granules.with_blocks, Soundness.IsSound}
use Rattle.journal_core.specs.declared.outcome.{Effect.Effect, HeldKind.HeldKind}
use Rattle.offer_core.specs.{Offerings.oldest_of, Responses.response_list_rule, Responses.respond_rule}
use Rattle.device_rules.proofs.{HostOfTagsSet.Told, OneAnswer.IsAnswer, OneAnswer.answer_picture, OneAnswer.q, OneAnswer.tags_of-has, OpenLive.has_marked, Quiet.quiet_front, Quiet.unhold_quiet}
use Rattle.device_rules.{proofs.Responding.answer_of, specs.Pictures.Picture, specs.Pictures.picture_after, specs.ResponseOutcomes.respond_changes, specs.ResponseOutcomes.unhold, specs.Standing.Sound}
use Rattle.device_rules.specs.Tags.{tags_after}
use Rattle.selection.proofs.Prescribed.{neither}

-- what follows from what does not hold does not hold
pub unless_holds : (a b : Bool) → (a ≡ true → b ≡ true) → b ≡ false → a ≡ false
unless_holds a b follows none = false_from_ne_true a (λ e. false≢true (sym none ∙ follows e))

or_none : (a b : Bool) → b ≡ false → (a || b) ≡ a
or_none true b none = refl
or_none false b none = none

or_after : (a b : Bool) → a ≡ false → b ≡ (a || b)
or_after a b none = sym (ap (λ x. x || b) none)

-- nothing happens
pub told_same : (c : Configuration) (h : HostId) (told : List Tag) (p : Picture) → Told c h told p p
told_same c h told p = record {
  region = λ t open_tag. refl;
  runs = λ t open_tag. refl;
  referenced = λ t. refl;
  accepted_others = λ k other. refl;
  offers_others = λ k other. refl;
  accepted_kept = λ t open_tag untold. refl;
  offers_kept = λ t open_tag untold. refl;
}

module _ (c : Configuration) (sound : IsSound c) (p : Picture) (before : Sound c p) (h : HostId) (host : h < c.hosts) where
  -- an answer leaves the tags that the offer has not
  answer_told : (offer : List Extent) (later : List (List Extent)) (offers : p.offers h ≡ offer ∷ later) (all : List Extent) (a : IsAnswer c p h offer later all) →
      Told c h (tags_of offer) p (q c sound p before h host offer later offers all a)
  answer_told offer later offers all a = record {
    region = λ t open_tag. refl;
    runs = λ t open_tag. refl;
    referenced = λ t. refl;
    accepted_others = λ k other. ap (λ b. if b then p.accepted k ++ map (marked offer) all else p.accepted k) other;
    offers_others = λ k other. ap (λ b. if b then drop 1 (p.offers k) else p.offers k) other;
    accepted_kept = λ t open_tag untold.
        ap (λ b. has_extent_of t (if b then p.accepted h ++ map (marked offer) all else p.accepted h)) (eq-eqb h h refl)
        ∙ list_any-append (λ x. same_tag x.tag t) (p.accepted h) (map (marked offer) all)
        ∙ or_none (has_extent_of t (p.accepted h)) (has_extent_of t (map (marked offer) all))
        (unless_holds (has_extent_of t (map (marked offer) all)) (has_extent_of t offer) (has_marked t offer all a.inside) (not_offered t untold));
    offers_kept = λ t open_tag untold.
        ap (λ b. list_any (has_extent_of t) (if b then drop 1 (p.offers h) else p.offers h)) (eq-eqb h h refl)
        ∙ ap (λ os. list_any (has_extent_of t) (drop 1 os)) offers
        ∙ or_after (has_extent_of t offer) (list_any (has_extent_of t) later) (not_offered t untold)
        ∙ sym (ap (list_any (has_extent_of t)) offers);
  }
    where
      not_offered : (t : Tag) → has_tag (tags_of offer) t ≡ false → has_extent_of t offer ≡ false
      not_offered t untold = unless_holds (has_extent_of t offer) (has_tag (tags_of offer) t) (tags_of-has offer t) untold

  -- so does a response
  pub response_told : (offers : List (List Extent)) → p.offers h ≡ offers → (held list : List Extent) →
      respond_rule (with_blocks c p.block) h (length (p.accepted h)) offers held false list ≡ None →
      Told c h (tags_of (oldest_of offers)) p (picture_after c p (respond_changes c h offers held false list))
  response_told [] is held list row =
      subst (Told c h (tags_of (oldest_of [])) p) (sym (quiet_front c p (unhold h HeldKind.Responses held) [] (unhold_quiet h HeldKind.Responses held))) (told_same c h (tags_of (oldest_of [])) p)
  response_told (offer ∷ later) is held list row =
      let all : List Extent = held ++ list in
      let rules = neither (too_many_listed all) (response_list_rule (with_blocks c p.block) h (length (p.accepted h)) (offer ∷ later) all) row in
      let a = answer_of c sound p before.stands h host offer later (held ++ list) rules.1 in
      let told : picture_after c p (unhold h HeldKind.Responses held ++ (Effect.Answer h (map (marked offer) (held ++ list)) ∷ map (λ x. Effect.Take h (run_of c h x)) (held ++ list))) ≡ q c sound p before h host offer later is (held ++ list) a =
      quiet_front c p (unhold h HeldKind.Responses held) (Effect.Answer h (map (marked offer) (held ++ list)) ∷ map (λ x. Effect.Take h (run_of c h x)) (held ++ list)) (unhold_quiet h HeldKind.Responses held)
      ∙ answer_picture c sound p before h host offer later is (held ++ list) a in
      subst (Told c h (tags_of offer) p) (sym told) (answer_told offer later is (held ++ list) a)

  -- and no tag is opened or ends
  pub response_tags : (offers : List (List Extent)) (held list : List Extent) → (picture_after c p (respond_changes c h offers held false list)).tags ≡ p.tags
  response_tags [] held list = ap (λ r. r.tags) (quiet_front c p (unhold h HeldKind.Responses held) [] (unhold_quiet h HeldKind.Responses held))
  response_tags (offer ∷ later) held list = ap (λ r. r.tags) (quiet_front c p (unhold h HeldKind.Responses held) (Effect.Answer h (map (marked offer) (held ++ list)) ∷ map (λ x. Effect.Take h (run_of c h x)) (held ++ list)) (unhold_quiet h HeldKind.Responses held))
      ∙ takes_tags p.tags (held ++ list)
    where
      takes_tags : (tags : List Tag) (xs : List Extent) → fold (tags_after c) tags (map (λ x. Effect.Take h (run_of c h x)) xs) ≡ tags
      takes_tags tags [] = refl
      takes_tags tags (x ∷ xs) = takes_tags tags xs
