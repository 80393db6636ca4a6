-- References to tags keep what every legal journal keeps: 5606h and 5607h.
use Rattle.std.proofs.Common.{◌≡◌, ◌⊎◌, Bool, true, false, not, ◌||◌, List, [], ◌∷◌, ◌++◌, refl, ap, ◌∙◌, inl, inr}
use Rattle.std.{specs.Prelude.if◌then◌else◌, proofs.lemmas.Bool.and_from, proofs.lemmas.Bool.and_parts, proofs.lemmas.Bool.cases_Bool, proofs.lemmas.Bool.or_left, proofs.lemmas.Bool.or_right}
use Rattle.cci_codec.specs.dcd_base.specs.{declared.capacity.Tag.Tag, Words.has_tag, Words.is_zero_tag, Words.same_tag}
use Rattle.extent_list.specs.media_map.specs.region_config.specs.Configurations.{Configuration}
use Rattle.journal_core.specs.declared.outcome.Effect.{Effect}
use Rattle.device_rules.{proofs.ListSteps.each-change, proofs.Settling.outcome_keeps, proofs.TagSteps.same_tag-back, specs.Outcomes.effects_of}
use Rattle.device_rules.specs.Pictures.{Picture, extents_at, is_with_a_host, lives, picture_after, picture_of}
use Rattle.device_rules.specs.{Standing.IsHome, Standing.IsUnder, Standing.Sound, Standing.Stands, TagCommands.add_reference_outcome, TagCommands.remove_reference_outcome, Tags.is_referenced}

-- what stands does not read the references
stands_referenced : (c : Configuration) (p : Picture) (on : Tag → Bool) → Stands c p → Stands c (record p { referenced = on })
stands_referenced c p on s = let q : Picture = record p { referenced = on } in record {
  no_accepted = s.no_accepted;
  no_offers = s.no_offers;
  held = s.held;
  once = s.once;
  one = s.one;
  apart = s.apart;
  few = s.few;
  home = λ h. each-change (IsHome c p h) (IsHome c q h) (λ x a. record { region = a.region; made = a.made }) (extents_at p h) (s.home h);
  under = λ h. each-change (IsUnder c p h) (IsUnder c q h) (λ x u shared. let a = u shared in record { open_tag = a.open_tag; covered = a.covered }) (extents_at p h) (s.under h);
  together = s.together;
  opened = λ t e. let a = s.opened t e in record {
    host = a.host;
    extents = a.extents;
    region = a.region;
    offer = a.offer;
    known = a.known;
    shareable = a.shareable;
    each = a.each;
    some = a.some;
    apart = a.apart;
    nonzero = a.nonzero;
  };
  blocks = s.blocks;
}

-- a tag lives on where its reference does
lives_on : (c : Configuration) (p : Picture) (on : Tag → Bool) (t : Tag) → (p.referenced t ≡ true → on t ≡ true) → lives c p t ≡ true → lives c (record p { referenced = on }) t ≡ true
lives_on c p on t keeps e =
    let parts = and_parts (not (is_zero_tag t)) (is_with_a_host c p t || p.referenced t) e in
    and_from (not (is_zero_tag t)) (is_with_a_host c p t || on t) parts.0 (elim (cases_Bool (is_with_a_host c p t)) [
      | inl hosts ↦ or_left (is_with_a_host c p t) (on t) hosts
      | inr nobody ↦ or_right (is_with_a_host c p t) (on t) (keeps (rw nobody at parts.1))
    ])

added : (same was : Bool) → was ≡ true → (if same then true else was) ≡ true
added true was e = refl
added false was e = e

module _ (c : Configuration) (past : List Effect) (before : Sound c (picture_of c past)) (tag : Tag) where
  abbrev p : Picture
  p = picture_of c past

  -- 5606h keeps it
  pub add_reference_keeps : Sound c (picture_of c (past ++ effects_of c past (add_reference_outcome past tag)))
  add_reference_keeps =
      let r = by_reference (is_referenced tag past) in
      outcome_keeps c past (add_reference_outcome past tag) r.0 r.1
    where
      by_reference : (b : Bool) → Stands c (picture_after c p (if b then [] else Effect.Ref tag true ∷ []))
          × ((t : Tag) → has_tag (picture_after c p (if b then [] else Effect.Ref tag true ∷ [])).tags t ≡ true →
          (lives c (picture_after c p (if b then [] else Effect.Ref tag true ∷ [])) t ≡ true) ⊎ ((has_tag p.tags t ≡ true) × (has_tag [] t ≡ true)))
      by_reference true = (before.stands, λ t e. inl (before.live t e))
      by_reference false = (
        stands_referenced c p (λ t. if same_tag tag t then true else p.referenced t) before.stands,
        λ t e. inl (lives_on c p (λ t. if same_tag tag t then true else p.referenced t) t (added (same_tag tag t) (p.referenced t)) (before.live t e)),
      )

  -- and 5607h
  pub remove_reference_keeps : Sound c (picture_of c (past ++ effects_of c past (remove_reference_outcome tag)))
  remove_reference_keeps =
      let on : Tag → Bool = λ t. if same_tag tag t then false else p.referenced t in
      outcome_keeps c past (remove_reference_outcome tag) (stands_referenced c p on before.stands) (λ t e. elim (cases_Bool (same_tag tag t)) [
        | inl same ↦ inr (e, or_left (same_tag t tag) false (same_tag-back t tag ∙ same))
        | inr other ↦ inl (lives_on c p (λ t. if same_tag tag t then false else p.referenced t) t (λ was. ap (λ b. if b then false else p.referenced t) other ∙ was) (before.live t e))
      ])
