-- In every legal journal a tag is open just where it lives and its last offer lies in a shareable region.
use Rattle.std.proofs.Common.{◌≡◌, ℕ, ◌<◌, Bool, true, false, ◌||◌, ◌==◌, List, [], ◌∷◌, ◌++◌, length, map, None, refl, ap, sym, subst, ◌∙◌, inl, inr}
use Rattle.std.proofs.lemmas.{Bool.cases_Bool, Bool.eqb-true, Bool.false≢true, Bool.or_left, Bool.or_right, List.Folds.list_any-append}
use Rattle.std.specs.{List.AllByRecursion, List.list_all, List.list_any, Prelude.drop, Prelude.if◌then◌else◌}
use Rattle.cci_codec.specs.dcd_base.specs.{declared.capacity.Extent.Extent, declared.capacity.Tag.Tag, declared.ids.HostId.HostId, Words.has_tag, Words.same_tag}
use Rattle.extent_list.specs.{ExtentLists.has_extent_of, ExtentLists.marked, Listing.too_many_listed, media_map.specs.Places.run_of, media_map.specs.region_config.specs.Configurations.Configuration}
use Rattle.extent_list.specs.media_map.specs.region_config.specs.{Granules.with_blocks, Soundness.IsSound}
use Rattle.offer_core.specs.Responses.{response_list_rule, respond_rule}
use Rattle.journal_core.specs.declared.outcome.{Effect.Effect, HeldKind.HeldKind}
use Rattle.device_rules.proofs.{GivingBack.leaves_are, ListSteps.each-change, OneAnswer.IsAnswer, OneAnswer.answer_picture, OneAnswer.q}
use Rattle.device_rules.proofs.OpenLive.{IsOpened, fewer_opened, has_marked, keeps, lives_less, offer_opened, outcome_opened, removals_opened}
use Rattle.device_rules.proofs.{Pictures.picture-append, Quiet.is_quiet, Quiet.quiet_front, Quiet.quiet_picture, Quiet.unhold_quiet, Responding.answer_of, TagSteps.same_tag-is}
use Rattle.device_rules.specs.{Outcomes.Outcome, Outcomes.effects_of, Pictures.Picture, Pictures.picture_after, Pictures.picture_of, ReleaseOutcomes.leaves, ReleaseOutcomes.removals}
use Rattle.device_rules.specs.{ResponseOutcomes.respond_changes, ResponseOutcomes.unhold, Standing.Sound}
use Rattle.selection.proofs.Prescribed.{neither}

-- ---- a command

pub quiet_opened : (c : Configuration) (past new : List Effect) → list_all is_quiet new ≡ true → IsOpened c (picture_of c past) → IsOpened c (picture_of c (past ++ new))
quiet_opened c past new quiet opened = subst (IsOpened c) (sym (picture-append c past new ∙ quiet_picture c (picture_of c past) new quiet)) opened

pub quiet_outcome_opened : (c : Configuration) (past : List Effect) (o : Outcome) → list_all is_quiet o.changes ≡ true → IsOpened c (picture_of c past) → IsOpened c (picture_of c (past ++ effects_of c past o))
quiet_outcome_opened c past o quiet opened = outcome_opened c past o (subst (IsOpened c) (sym (quiet_picture c (picture_of c past) o.changes quiet)) opened)

-- 4802h
answer_opened : (c : Configuration) (sound : IsSound c) (p : Picture) (before : Sound c p) (h : HostId) (host : h < c.hosts) (offer : List Extent) (later : List (List Extent)) (offers : p.offers h ≡ offer ∷ later) (all : List Extent)
    → IsAnswer c p h offer later all → IsOpened c p → IsOpened c (picture_after c p (Effect.Answer h (map (marked offer) all) ∷ map (λ x. Effect.Take h (run_of c h x)) all))
answer_opened c sound p before h host offer later offers all a opened =
    let after : Picture = q c sound p before h host offer later offers all a in
    subst (IsOpened c) (sym (answer_picture c sound p before h host offer later offers all a))
    (fewer_opened c p after (λ t alive. lives_less c p after t (less t) (λ e. e) alive) (λ t. refl) refl opened)
  where
    split : (t : Tag) (k : HostId) → p.offers k ≡ offer ∷ later → (has_extent_of t (p.accepted k ++ map (marked offer) all) || list_any (has_extent_of t) (drop 1 (p.offers k))) ≡ true → keeps p t k ≡ true
    split t k is has = elim (cases_Bool (has_extent_of t (p.accepted k))) [
      | inl held ↦ or_left (has_extent_of t (p.accepted k)) (list_any (has_extent_of t) (p.offers k)) held
      | inr not_held ↦ or_right (has_extent_of t (p.accepted k)) (list_any (has_extent_of t) (p.offers k)) (ap (list_any (has_extent_of t)) is ∙ elim (cases_Bool (has_extent_of t offer)) [
        | inl here ↦ or_left (has_extent_of t offer) (list_any (has_extent_of t) later) here
        | inr not_here ↦ (let parts : has_extent_of t (p.accepted k ++ map (marked offer) all) ≡ (has_extent_of t (p.accepted k) || has_extent_of t (map (marked offer) all)) = list_any-append (λ x. same_tag x.tag t) (p.accepted k) (map (marked offer) all) in
            or_right (has_extent_of t offer) (list_any (has_extent_of t) later) (elim (cases_Bool (has_extent_of t (map (marked offer) all))) [
              | inl taken ↦ absurd (false≢true (sym not_here ∙ has_marked t offer all a.inside taken))
              | inr not_taken ↦ (let none : has_extent_of t (p.accepted k ++ map (marked offer) all) ≡ false = parts ∙ (rw (not_held, not_taken) refl) in
                  sym (ap (λ os. list_any (has_extent_of t) (drop 1 os)) is) ∙ (rw none at has))
            ]))
      ])
    ]

    less : (t : Tag) (k : HostId) → (has_extent_of t (if h == k then p.accepted k ++ map (marked offer) all else p.accepted k) || list_any (has_extent_of t) (if h == k then drop 1 (p.offers k) else p.offers k)) ≡ true → keeps p t k ≡ true
    less t k has = elim (cases_Bool (h == k)) [
      | inr other ↦ sym (ap (λ b. has_extent_of t (if b then p.accepted k ++ map (marked offer) all else p.accepted k) || list_any (has_extent_of t) (if b then drop 1 (p.offers k) else p.offers k)) other) ∙ has
      | inl same ↦ split t k (subst (λ l. p.offers l ≡ offer ∷ later) (eqb-true h k same) offers)
          (sym (ap (λ b. has_extent_of t (if b then p.accepted k ++ map (marked offer) all else p.accepted k) || list_any (has_extent_of t) (if b then drop 1 (p.offers k) else p.offers k)) same) ∙ has)
    ]

pub responded_opened : (c : Configuration) → IsSound c → (p : Picture) → Sound c p → (h : HostId) → h < c.hosts → (offers : List (List Extent)) → p.offers h ≡ offers → (held list : List Extent)
    → respond_rule (with_blocks c p.block) h (length (p.accepted h)) offers held false list ≡ None → IsOpened c p → IsOpened c (picture_after c p (respond_changes c h offers held false list))
responded_opened c sound p before h host [] is held list row opened =
    subst (IsOpened c) (sym (quiet_front c p (unhold h HeldKind.Responses held) [] (unhold_quiet h HeldKind.Responses held))) opened
responded_opened c sound p before h host (offer ∷ later) is held list row opened =
    let all : List Extent = held ++ list in
    let rules = neither (too_many_listed all) (response_list_rule (with_blocks c p.block) h (length (p.accepted h)) (offer ∷ later) all) row in
    let a = answer_of c sound p before.stands h host offer later (held ++ list) rules.1 in
    subst (IsOpened c) (sym (quiet_front c p (unhold h HeldKind.Responses held) (Effect.Answer h (map (marked offer) (held ++ list)) ∷ map (λ x. Effect.Take h (run_of c h x)) (held ++ list)) (unhold_quiet h HeldKind.Responses held)))
    (answer_opened c sound p before h host offer later is (held ++ list) a opened)

pub given_opened : (c : Configuration) (p : Picture) (h : HostId) (held list : List Extent) → IsOpened c p → IsOpened c (picture_after c p (unhold h HeldKind.Releases held ++ leaves c h (held ++ list)))
given_opened c p h held list opened =
    subst (IsOpened c) (sym (quiet_front c p (unhold h HeldKind.Releases held) (leaves c h (held ++ list)) (unhold_quiet h HeldKind.Releases held) ∙ ap (picture_after c p) (sym (leaves_are c h (held ++ list)))))
    (removals_opened c h false (held ++ list) p opened)

-- 5605h
pub removed_opened : (c : Configuration) (p : Picture) (h : HostId) (forced clean : Bool) (all : List Extent) → IsOpened c p → IsOpened c (picture_after c p (if forced then removals c h clean all else []))
removed_opened c p h true clean all opened = removals_opened c h clean all p opened
removed_opened c p h false clean all opened = opened

-- 5604h
pub each_tagged : (shareable : Bool) (t : Tag) (xs : List (ℕ × Extent)) → AllByRecursion (λ y. y.tag ≡ t) (map (λ x. record x.1 { tag = t; sequence = if shareable then x.0 else 0 }) xs)
each_tagged shareable t [] = tt
each_tagged shareable t (x ∷ xs) = (refl, each_tagged shareable t xs)

pub added_opened : (c : Configuration) (p : Picture) (h : HostId) (t : Tag) (new : List Extent) → AllByRecursion (λ y. y.tag ≡ t) new → IsOpened c p → IsOpened c (picture_after c p (Effect.Offer h new ∷ []))
added_opened c p h t [] each opened =
    let after : Picture = picture_after c p (Effect.Offer h [] ∷ []) in
    fewer_opened c p after (λ u alive. lives_less c p after u (λ k has. less u k (h == k) has) (λ e. e) alive) (λ u. refl) refl opened
  where
    less : (u : Tag) (k : HostId) (b : Bool) → (has_extent_of u (p.accepted k) || list_any (has_extent_of u) (if b then p.offers k ++ [] ∷ [] else p.offers k)) ≡ true → keeps p u k ≡ true
    less u k false has = has
    less u k true has = ap (λ b. has_extent_of u (p.accepted k) || b) (sym (list_any-append (has_extent_of u) (p.offers k) ([] ∷ []) ∙ or_none (list_any (has_extent_of u) (p.offers k)))) ∙ has
      where
        or_none : (b : Bool) → (b || (false || false)) ≡ b
        or_none true = refl
        or_none false = refl
added_opened c p h t (x ∷ xs) each opened = offer_opened c p h x xs (each-change (λ y. y.tag ≡ t) (λ y. y.tag ≡ x.tag) (λ y e. e ∙ sym each.0) xs each.1) opened

-- 5606h and 5607h
pub reference_opened : (c : Configuration) (p : Picture) (tag : Tag) (known : Bool) → has_tag p.tags tag ≡ true → IsOpened c p → IsOpened c (picture_after c p (if known then [] else Effect.Ref tag true ∷ []))
reference_opened c p tag true is opened = opened
reference_opened c p tag false is opened = λ t alive shared. elim (cases_Bool (same_tag tag t)) [
  | inl same ↦ subst (λ u. has_tag p.tags u ≡ true) (same_tag-is tag t same) is
  | inr other ↦ opened t (lives_less c p (picture_after c p (Effect.Ref tag true ∷ [])) t (λ k has. has) (λ e. sym (ap (λ b. if b then true else p.referenced t) other) ∙ e) alive) shared
]

pub dropped_opened : (c : Configuration) (p : Picture) (tag : Tag) → IsOpened c p → IsOpened c (picture_after c p (Effect.Ref tag false ∷ []))
dropped_opened c p tag opened =
    let after : Picture = picture_after c p (Effect.Ref tag false ∷ []) in
    fewer_opened c p after (λ t alive. lives_less c p after t (λ k has. has) (λ e. was t (same_tag tag t) e) alive) (λ t. refl) refl opened
  where
    was : (t : Tag) (b : Bool) → (if b then false else p.referenced t) ≡ true → p.referenced t ≡ true
    was t true e = absurd (false≢true e)
    was t false e = e
