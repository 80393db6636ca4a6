-- A tag that lives, and whose last offer lies in a shareable region, is open.
use Rattle.std.proofs.Common.{◌≡◌, ℕ, ◌+◌, Bool, true, false, not, ◌&&◌, ◌||◌, ◌==◌, List, [], ◌∷◌, ◌++◌, map, Some, refl, ap, sym, subst, ◌∙◌, inl, inr, ltb}
use Rattle.std.proofs.lemmas.{Bool.and_from, Bool.and_parts, Bool.cases_Bool, Bool.false≢true, Bool.false_from_ne_true, Bool.or_from, Bool.or_left, Bool.or_right, List.Folds.list_any-append}
use Rattle.std.specs.{List.AllByRecursion, List.list_any, Prelude.if◌then◌else◌}
use Rattle.cci_codec.specs.dcd_base.specs.{Words.has_tag, Words.is_zero_tag, Words.same_tag, declared.capacity.Extent.Extent, declared.capacity.Tag.Tag, declared.ids.HostId.HostId}
use Rattle.cci_codec.specs.dcd_base.specs.declared.media.Run.{Run}
use Rattle.extent_list.specs.ExtentLists.{cut, has_extent_of, has_range, is_in, lies_in, marked, owner_of, piece, without}
use Rattle.extent_list.specs.media_map.specs.{Places.bytes_of_run, Places.region_at, Places.run_of, Places.start_of, region_config.specs.Configurations.Configuration}
use Rattle.extent_list.specs.media_map.specs.region_config.specs.Granules.{hosts_of, region_spec}
use Rattle.journal_core.specs.declared.outcome.Effect.{Effect}
use Rattle.device_rules.proofs.{AllLeave.soils_quiet, OneOffer.any-implies, Pictures.picture-append, Pictures.picture-outcome, Quiet.quiet_front, Settling.ended_parts}
use Rattle.device_rules.{proofs.TagSteps.open_still, proofs.TagSteps.same_tag-is, proofs.TagSteps.same_tag-self, specs.Outcomes.Outcome, specs.Outcomes.effects_of, specs.Outcomes.ended}
use Rattle.device_rules.specs.{Pictures.Picture, Pictures.is_with_a_host, Pictures.lives, Pictures.picture_after, Pictures.picture_of, ReleaseOutcomes.removals, ReleaseOutcomes.soils}
use Rattle.device_rules.specs.Tags.{is_in_shareable, tag_region}

abbrev pub IsOpened : Configuration → Picture → Type 0
IsOpened c p = (t : Tag) → lives c p t ≡ true → is_in_shareable c (tag_region c (p.last t)) ≡ true → has_tag p.tags t ≡ true

-- the host has an extent of the tag
abbrev pub keeps : Picture → Tag → HostId → Bool
keeps p t k = has_extent_of t (p.accepted k) || list_any (has_extent_of t) (p.offers k)

-- where no host and no reference begins to keep a tag, none begins to live
pub lives_less : (c : Configuration) (p q : Picture) (t : Tag) → ((k : HostId) → keeps q t k ≡ true → keeps p t k ≡ true) → (q.referenced t ≡ true → p.referenced t ≡ true) → lives c q t ≡ true → lives c p t ≡ true
lives_less c p q t hosts refs e =
    let sides = and_parts (not (is_zero_tag t)) (is_with_a_host c q t || q.referenced t) e in
    and_from (not (is_zero_tag t)) (is_with_a_host c p t || p.referenced t) sides.0 (elim (cases_Bool (is_with_a_host c q t)) [
      | inl some ↦ or_left (is_with_a_host c p t) (p.referenced t) (any-implies (keeps q t) (keeps p t) (hosts_of c) hosts some)
      | inr nobody ↦ or_right (is_with_a_host c p t) (p.referenced t) (refs (rw nobody at sides.1))
    ])

-- and without an offer and an end of a tag all that live are openen still
pub fewer_opened : (c : Configuration) (p q : Picture) → ((t : Tag) → lives c q t ≡ true → lives c p t ≡ true) → ((t : Tag) → q.last t ≡ p.last t) → q.tags ≡ p.tags → IsOpened c p → IsOpened c q
fewer_opened c p q back last tags opened t alive shared =
    ap (λ ts. has_tag ts t) tags ∙ opened t (back t alive) (sym (ap (λ o. is_in_shareable c (tag_region c o)) (last t)) ∙ shared)

-- ---- what leaves

has_piece : (t : Tag) (x : Extent) (from to : ℕ) → has_extent_of t (piece x from to) ≡ true → same_tag x.tag t ≡ true
has_piece t x from to e = elim (cases_Bool (ltb from to)) [
  | inr none ↦ absurd (false≢true (rw none at e))
  | inl some ↦ elim (cases_Bool (same_tag x.tag t)) [
    | inl same ↦ same
    | inr other ↦ absurd (false≢true (rw (some, other) at e))
  ]
]

has_without : (t : Tag) (x : Extent) (start bytes : ℕ) → has_extent_of t (without x start bytes) ≡ true → same_tag x.tag t ≡ true
has_without t x start bytes e =
    let low : List Extent = piece x x.start start in
    let up : List Extent = piece x (start + bytes) (x.start + x.length) in
    let either : (has_extent_of t low || has_extent_of t up) ≡ true = sym (list_any-append (λ y. same_tag y.tag t) low up) ∙ e in
    elim (cases_Bool (has_extent_of t low)) [
      | inl below ↦ has_piece t x x.start start below
      | inr not_below ↦ has_piece t x (start + bytes) (x.start + x.length) (rw not_below at either)
    ]

pub has_cut : (t : Tag) (start bytes : ℕ) (xs : List Extent) → has_extent_of t (cut start bytes xs) ≡ true → has_extent_of t xs ≡ true
has_cut t start bytes [] e = e
has_cut t start bytes (x ∷ xs) e = elim (cases_Bool (has_range start bytes x)) [
  | inl gives ↦ (let all : has_extent_of t (without x start bytes ++ xs) ≡ true = rw gives at e in
      let either : (has_extent_of t (without x start bytes) || has_extent_of t xs) ≡ true = sym (list_any-append (λ y. same_tag y.tag t) (without x start bytes) xs) ∙ all in
      elim (cases_Bool (has_extent_of t (without x start bytes))) [
        | inl piece_has ↦ or_left (same_tag x.tag t) (has_extent_of t xs) (has_without t x start bytes piece_has)
        | inr none ↦ or_right (same_tag x.tag t) (has_extent_of t xs) (rw none at either)
      ])
  | inr stays ↦ (let all : (same_tag x.tag t || has_extent_of t (cut start bytes xs)) ≡ true = rw stays at e in
      elim (cases_Bool (same_tag x.tag t)) [
        | inl here ↦ or_left (same_tag x.tag t) (has_extent_of t xs) here
        | inr other ↦ or_right (same_tag x.tag t) (has_extent_of t xs) (has_cut t start bytes xs (rw other at all))
      ])
]

leave_opened : (c : Configuration) (p : Picture) (h : HostId) (run : Run) → IsOpened c p → IsOpened c (picture_after c p (Effect.Leave h run ∷ []))
leave_opened c p h run opened =
    let q : Picture = picture_after c p (Effect.Leave h run ∷ []) in
    fewer_opened c p q (λ t alive. lives_less c p q t (λ k has. less t k (h == k) has) (λ e. e) alive) (λ t. refl) refl opened
  where
    less : (t : Tag) (k : HostId) (b : Bool) → (has_extent_of t (if b then cut (start_of c k run) (bytes_of_run c run) (p.accepted k) else p.accepted k) || list_any (has_extent_of t) (p.offers k)) ≡ true → keeps p t k ≡ true
    less t k false has = has
    less t k true has = elim (cases_Bool (has_extent_of t (cut (start_of c k run) (bytes_of_run c run) (p.accepted k)))) [
      | inl held ↦ or_left (has_extent_of t (p.accepted k)) (list_any (has_extent_of t) (p.offers k)) (has_cut t (start_of c k run) (bytes_of_run c run) (p.accepted k) held)
      | inr not_held ↦ or_right (has_extent_of t (p.accepted k)) (list_any (has_extent_of t) (p.offers k)) (rw not_held at has)
    ]

pub removals_opened : (c : Configuration) (h : HostId) (clean : Bool) (ys : List Extent) (p : Picture) → IsOpened c p → IsOpened c (picture_after c p (removals c h clean ys))
removals_opened c h clean [] p opened = opened
removals_opened c h clean (y ∷ ys) p opened =
    let run : Run = run_of c h y in
    let after : Picture = picture_after c p (Effect.Leave h (run_of c h y) ∷ []) in
    subst (IsOpened c) (sym (quiet_front c after (soils clean run) (removals c h clean ys) (soils_quiet clean run)))
    (removals_opened c h clean ys after (leave_opened c p h run opened))

-- ---- an answer

has_owner : (t : Tag) (owners : List Extent) (x : Extent) → is_in owners x ≡ true → same_tag (owner_of owners x).tag t ≡ true → has_extent_of t owners ≡ true
has_owner t [] x inside e = absurd (false≢true inside)
has_owner t (y ∷ owners) x inside e = elim (cases_Bool (lies_in x y)) [
  | inl here ↦ or_left (same_tag y.tag t) (has_extent_of t owners) (rw here at e)
  | inr other ↦ or_right (same_tag y.tag t) (has_extent_of t owners) (has_owner t owners x (rw other at inside) (rw other at e))
]

pub has_marked : (t : Tag) (owners xs : List Extent) → AllByRecursion (λ x. is_in owners x ≡ true) xs → has_extent_of t (map (marked owners) xs) ≡ true → has_extent_of t owners ≡ true
has_marked t owners [] inside e = absurd (false≢true e)
has_marked t owners (x ∷ xs) inside e = elim (cases_Bool (same_tag (owner_of owners x).tag t)) [
  | inl here ↦ has_owner t owners x inside.0 here
  | inr other ↦ has_marked t owners xs inside.1 (rw other at e)
]

-- ---- an offer

has_none : (t u : Tag) (xs : List Extent) → AllByRecursion (λ x. x.tag ≡ t) xs → same_tag t u ≡ false → has_extent_of u xs ≡ false
has_none t u [] each other = refl
has_none t u (x ∷ xs) each other = or_from (same_tag x.tag u) (has_extent_of u xs) (ap (λ v. same_tag v u) each.0 ∙ other) (has_none t u xs each.1 other)

-- an offer of one tag opens it where its region is shareable
pub offer_opened : (c : Configuration) (p : Picture) (h : HostId) (x : Extent) (xs : List Extent) → AllByRecursion (λ y. y.tag ≡ x.tag) xs → IsOpened c p → IsOpened c (picture_after c p (Effect.Offer h (x ∷ xs) ∷ []))
offer_opened c p h x xs each opened u alive shared = elim (cases_Bool (same_tag x.tag u)) [
  | inl same ↦ opened_now same (rw same at shared)
  | inr other ↦ grown (region_spec c (region_at c h x.start)).shareable (has_tag p.tags x.tag) u
      (opened u (lives_less c p q u (λ k has. less k other (h == k) has) (λ e. e) alive) (sym (ap (λ o. is_in_shareable c (tag_region c o)) (last_stays other)) ∙ shared))
]
  where
    q : Picture
    q = picture_after c p (Effect.Offer h (x ∷ xs) ∷ [])

    none_new : same_tag x.tag u ≡ false → has_extent_of u (x ∷ xs) ≡ false
    none_new other = has_none x.tag u (x ∷ xs) (refl, each) other

    last_stays : same_tag x.tag u ≡ false → q.last u ≡ p.last u
    last_stays other = ap (λ b. if b then Some (h, x ∷ xs) else p.last u) (none_new other)

    grown : (shareable has : Bool) (t : Tag) → has_tag p.tags t ≡ true → has_tag (if shareable && not has then p.tags ++ x.tag ∷ [] else p.tags) t ≡ true
    grown false has t e = e
    grown true true t e = e
    grown true false t e = list_any-append (same_tag t) p.tags (x.tag ∷ []) ∙ or_left (has_tag p.tags t) (has_tag (x.tag ∷ []) t) e

    added : (has : Bool) → has_tag p.tags x.tag ≡ has → has_tag (if not has then p.tags ++ x.tag ∷ [] else p.tags) x.tag ≡ true
    added true was = was
    added false was = list_any-append (same_tag x.tag) p.tags (x.tag ∷ []) ∙ or_right (has_tag p.tags x.tag) (has_tag (x.tag ∷ []) x.tag) (or_left (same_tag x.tag x.tag) false (same_tag-self x.tag))

    opened_now : same_tag x.tag u ≡ true → (region_spec c (region_at c h x.start)).shareable ≡ true → has_tag q.tags u ≡ true
    opened_now same is_shared = subst (λ t. has_tag q.tags t ≡ true) (same_tag-is x.tag u same)
        (ap (λ b. has_tag (if b && not (has_tag p.tags x.tag) then p.tags ++ x.tag ∷ [] else p.tags) x.tag) is_shared ∙ added (has_tag p.tags x.tag) refl)

    less : (k : HostId) → same_tag x.tag u ≡ false → (b : Bool) → (has_extent_of u (p.accepted k) || list_any (has_extent_of u) (if b then p.offers k ++ (x ∷ xs) ∷ [] else p.offers k)) ≡ true → keeps p u k ≡ true
    less k other false has = has
    less k other true has = elim (cases_Bool (has_extent_of u (p.accepted k))) [
      | inl held ↦ or_left (has_extent_of u (p.accepted k)) (list_any (has_extent_of u) (p.offers k)) held
      | inr not_held ↦ or_right (has_extent_of u (p.accepted k)) (list_any (has_extent_of u) (p.offers k))
          (elim (cases_Bool (list_any (has_extent_of u) (p.offers k))) [
            | inl offered ↦ offered
            | inr not_offered ↦ (let some : (list_any (has_extent_of u) (p.offers k) || (has_extent_of u (x ∷ xs) || false)) ≡ true = sym (list_any-append (has_extent_of u) (p.offers k) ((x ∷ xs) ∷ [])) ∙ (rw not_held at has) in
                absurd (false≢true (sym (or_from (has_extent_of u (x ∷ xs)) false (none_new other) refl) ∙ (rw not_offered at some))))
          ])
    ]

-- ---- a command

-- The ends of its tags take out those that live no more.
pub outcome_opened : (c : Configuration) (past : List Effect) (o : Outcome) → IsOpened c (picture_after c (picture_of c past) o.changes) → IsOpened c (picture_of c (past ++ effects_of c past o))
outcome_opened c past o opened =
    let p : Picture = picture_of c past in
    let q : Picture = picture_after c p o.changes in
    let over : List Tag = ended c past o.changes o.tags in
    let same : picture_of c (past ++ o.changes) ≡ q = picture-append c past o.changes in
    let open_then : Tag → Bool = λ t. has_tag p.tags t in
    let live_now : Tag → Bool = λ t. lives c (picture_of c (past ++ o.changes)) t in
    subst (IsOpened c) (sym (picture-outcome c past o)) (λ t alive shared.
    open_still q.tags over t (opened t alive shared) (false_from_ne_true (has_tag over t) (λ gone.
    false≢true (sym (ended_parts open_then live_now o.tags t gone) ∙ ap (λ r. lives c r t) same ∙ alive))))
