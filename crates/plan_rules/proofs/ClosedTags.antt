-- Extents outside the shareable regions have no open tag, whatever a command does.
use Rattle.std.proofs.Common.{◌≡◌, ◌⊎◌, ℕ, ◌<◌, Bool, true, false, not, ◌&&◌, ◌||◌, ◌==◌, List, [], ◌∷◌, ◌++◌, length, map, refl, ap, sym, subst, ◌∙◌, inl, inr, arith, append_assoc}
use Rattle.std.{specs.Prelude.drop, specs.Prelude.flat_map, specs.Prelude.if◌then◌else◌, specs.List.AllByRecursion, specs.List.list_all, proofs.lemmas.List.Folds.list_any-append}
use Rattle.std.proofs.lemmas.Bool.{and_from, cases_Bool, cases_lt, eqb-true, false≢true, false_from_ne_true, not_from_false, or_left, and_parts}
use Rattle.dcd_base.specs.{declared.capacity.Extent.Extent, declared.capacity.Tag.Tag, declared.ids.HostId.HostId, declared.media.Run.Run, Words.has_tag, Words.is_zero_tag, Words.same_tag}
use Rattle.extent_list.specs.ExtentLists.{cut, has_extent_of, is_in, lies_in, marked}
use Rattle.region_config.specs.{Configurations.Configuration, Granules.region_spec, Soundness.IsSound}
use Rattle.media_map.{specs.Places.bytes_of_run, specs.Places.region_at, specs.Places.run_of, specs.Places.start_of, proofs.PlaceLemmas.has, proofs.RunLemmas.region_at_is}
use Rattle.journal_core.specs.declared.outcome.Effect.{Effect}
use Rattle.isolation_laws.specs.device_rules.proofs.{CutSteps.lies, Holding.no_extents, Holding.present_whole, Homes.made_region}
use Rattle.isolation_laws.specs.device_rules.proofs.ListSteps.{each-append, each-at, each-both, each-change, each-map, flat-push}
use Rattle.isolation_laws.specs.device_rules.proofs.{OneAnswer.IsAnswer, OneAnswer.answer_picture, OneAnswer.q, OneOffer.IsFresh, OneOffer.IsOffer, OneOffer.IsShared, Pictures.picture-outcome}
use Rattle.isolation_laws.specs.device_rules.proofs.{Quiet.is_quiet, Quiet.quiet_front, Settling.each-tagged, Settling.host_keeps, Settling.is_host, TagSteps.open_before, TagSteps.same_tag-is}
use Rattle.isolation_laws.specs.device_rules.specs.Outcomes.{Outcome, effects_of, ended}
use Rattle.isolation_laws.specs.device_rules.specs.Pictures.{Picture, extents_at, is_with_a_host, lives, picture_after, picture_of}
use Rattle.isolation_laws.specs.device_rules.specs.{ReleaseOutcomes.leaves, ReleaseOutcomes.removals, ReleaseOutcomes.soils, Standing.IsHome, Standing.IsMade, Standing.Sound}
use Rattle.plan_rules.proofs.Parts.{ArePartsOf, cut_parts, is_part, is_part_of, marked_part, parts_behind, parts_in_front, parts_join, parts_self, parts_then}

abbrev pub IsClosed : Configuration → Picture → HostId → Extent → Type 0
IsClosed c p h x = (region_spec c (region_at c h x.start)).shareable ≡ false → has_tag p.tags x.tag ≡ false

abbrev pub AreClosed : Configuration → Picture → Type 0
AreClosed c p = (h : HostId) → AllByRecursion (IsClosed c p h) (extents_at p h)

-- The second picture has parts of the first one's extents, and opens no tag.
pub record IsLess (p q : Picture) : Type 0 where
  pub parts : (h : HostId) → ArePartsOf (extents_at p h) (extents_at q h)
  pub tags : (t : Tag) → has_tag q.tags t ≡ true → has_tag p.tags t ≡ true

pub less_self : (p : Picture) → IsLess p p
less_self p = record { parts = λ h. parts_self (extents_at p h); tags = λ t e. e }

pub less_then : (p q r : Picture) → IsLess p q → IsLess q r → IsLess p r
less_then p q r first second = record {
  parts = λ h. parts_then (extents_at p h) (extents_at q h) (extents_at r h) (first.parts h) (second.parts h);
  tags = λ t e. first.tags t (second.tags t e);
}

-- where no more tags are open
tag_closed : (p r : Picture) → ((t : Tag) → has_tag r.tags t ≡ true → has_tag p.tags t ≡ true) → (t : Tag) → has_tag p.tags t ≡ false → has_tag r.tags t ≡ false
tag_closed p r tags t closed = false_from_ne_true (has_tag r.tags t) (λ now. false≢true (sym closed ∙ tags t now))

-- ---- parts of extents

module _ (c : Configuration) (sound : IsSound c) (p : Picture) (before : Sound c p) (r : Picture) (after : Sound c r) (less : IsLess p r) (closed : AreClosed c p) where
  one_closed : (h : HostId) → h < c.hosts → (x y : Extent) → is_part x y ≡ true → IsHome c r h x → IsHome c p h y → IsClosed c p h y → IsClosed c r h x
  one_closed h host x y part m n was private =
      let both = and_parts (lies_in x y) (same_tag y.tag x.tag) part in
      let l = lies x y both.0 in
      let there : region_at c h y.start ≡ n.region = region_at_is c h sound host y.start n.region n.made.known (has c h y.start n.region n.made.from (omega (arith, n.made.some, n.made.within))) in
      let here : region_at c h x.start ≡ n.region = region_at_is c h sound host x.start n.region n.made.known
      (has c h x.start n.region (omega (arith, l.begins, n.made.from)) (omega (arith, m.made.some, l.ends, n.made.within))) in
      tag_closed p r less.tags x.tag (ap (has_tag p.tags) (sym (same_tag-is y.tag x.tag both.1))
      ∙ was (ap (λ k. (region_spec c k).shareable) (there ∙ sym here) ∙ private))

  pub less_closed : AreClosed c r
  less_closed h = elim (cases_lt h c.hosts) [
    | inr past ↦ subst (AllByRecursion (IsClosed c r h)) (sym (no_extents c sound r after.stands h past)) tt
    | inl host ↦ each-both (λ x. is_part_of (extents_at p h) x ≡ true) (IsHome c r h) (IsClosed c r h)
        (λ x e m. let found = each-at (λ y. IsHome c p h y × IsClosed c p h y) (λ y. is_part x y) (extents_at p h)
        (each-both (IsHome c p h) (IsClosed c p h) (λ y. IsHome c p h y × IsClosed c p h y) (λ y a b. (a, b)) (extents_at p h) (before.stands.home h) (closed h)) e in
        one_closed h host x found.0 found.1 m found.2.0 found.2.1)
        (extents_at r h) (less.parts h) (after.stands.home h)
  ]

-- ---- what leaves or is answered

leave_less : (c : Configuration) (h : HostId) (run : Run) (p : Picture) → IsLess p (picture_after c p (Effect.Leave h run ∷ []))
leave_less c h run p = record { parts = λ k. one k (h == k); tags = λ t e. e }
  where
    one : (k : HostId) (b : Bool) → ArePartsOf (extents_at p k) ((if b then cut (start_of c k run) (bytes_of_run c run) (p.accepted k) else p.accepted k) ++ flat_map (λ xs. xs) (p.offers k))
    one k false = parts_self (extents_at p k)
    one k true = parts_join (p.accepted k) (flat_map (λ xs. xs) (p.offers k)) (cut (start_of c k run) (bytes_of_run c run) (p.accepted k)) (flat_map (λ xs. xs) (p.offers k))
        (cut_parts (start_of c k run) (bytes_of_run c run) (p.accepted k)) (parts_self (flat_map (λ xs. xs) (p.offers k)))

soils_quiet : (clean : Bool) (run : Run) → list_all is_quiet (soils clean run) ≡ true
soils_quiet true run = refl
soils_quiet false run = refl

pub removals_less : (c : Configuration) (h : HostId) (clean : Bool) (ys : List Extent) (p : Picture) → IsLess p (picture_after c p (removals c h clean ys))
removals_less c h clean [] p = less_self p
removals_less c h clean (y ∷ ys) p =
    let run : Run = run_of c h y in
    let after : Picture = picture_after c p (Effect.Leave h (run_of c h y) ∷ []) in
    subst (IsLess p) (sym (quiet_front c after (soils clean run) (removals c h clean ys) (soils_quiet clean run)))
    (less_then p after (picture_after c after (removals c h clean ys)) (leave_less c h run p) (removals_less c h clean ys after))

-- leaves are removals that do not clean
pub leaves_are : (c : Configuration) (h : HostId) (xs : List Extent) → removals c h false xs ≡ leaves c h xs
leaves_are c h [] = refl
leaves_are c h (x ∷ xs) = ap (λ es. Effect.Leave h (run_of c h x) ∷ es) (leaves_are c h xs)

pub answer_less : (c : Configuration) (sound : IsSound c) (p : Picture) (before : Sound c p) (h : HostId) (host : h < c.hosts) (offer : List Extent) (later : List (List Extent)) (offers : p.offers h ≡ offer ∷ later) (all : List Extent)
    → IsAnswer c p h offer later all → IsLess p (picture_after c p (Effect.Answer h (map (marked offer) all) ∷ map (λ x. Effect.Take h (run_of c h x)) all))
answer_less c sound p before h host offer later offers all a =
    subst (IsLess p) (sym (answer_picture c sound p before h host offer later offers all a)) (record { parts = λ k. by_host k; tags = λ t e. e })
  where
    mine : (k : HostId) → p.offers k ≡ offer ∷ later → ArePartsOf (extents_at p k) ((p.accepted k ++ map (marked offer) all) ++ flat_map (λ xs. xs) (drop 1 (p.offers k)))
    mine k is =
        let rest : List Extent = flat_map (λ xs. xs) later in
        let taken : ArePartsOf offer (map (marked offer) all) = each-map (λ x. is_in offer x ≡ true) (λ x. is_part_of offer x ≡ true) (marked offer) (marked_part offer) all a.inside in
        let first : ArePartsOf (p.accepted k ++ (offer ++ rest)) (p.accepted k ++ map (marked offer) all) =
        parts_join (p.accepted k) (offer ++ rest) (p.accepted k) (map (marked offer) all) (parts_self (p.accepted k)) (parts_in_front offer rest (map (marked offer) all) taken) in
        let second : ArePartsOf (p.accepted k ++ (offer ++ rest)) rest = parts_behind (p.accepted k) (offer ++ rest) rest (parts_behind offer rest rest (parts_self rest)) in
        let all_of = each-append (λ x. is_part_of (p.accepted k ++ (offer ++ rest)) x ≡ true) (p.accepted k ++ map (marked offer) all) rest first second in
        subst (λ os. ArePartsOf (p.accepted k ++ flat_map (λ xs. xs) os) ((p.accepted k ++ map (marked offer) all) ++ flat_map (λ xs. xs) (drop 1 os))) (sym is) all_of

    by_host : (k : HostId) → ArePartsOf (extents_at p k) ((if h == k then p.accepted k ++ map (marked offer) all else p.accepted k) ++ flat_map (λ xs. xs) (if h == k then drop 1 (p.offers k) else p.offers k))
    by_host k = elim (cases_Bool (h == k)) [
      | inr other ↦ rw other (parts_self (extents_at p k))
      | inl same ↦ rw same (mine k (subst (λ l. p.offers l ≡ offer ∷ later) (eqb-true h k same) offers))
    ]

-- ---- an offer

module _ (c : Configuration) (sound : IsSound c) (p : Picture) (before : Sound c p) (h : HostId) (r : ℕ) (t : Tag)
    (x : Extent) (xs : List Extent) (o : IsOffer c p h r t (x ∷ xs)) (way : IsFresh c p h r t (x ∷ xs) ⊎ IsShared c p h r t (x ∷ xs))
    (dead : has_tag p.tags t ≡ false → lives c p t ≡ false) (closed : AreClosed c p) where
  abbrev after : Picture
  after = picture_after c p (Effect.Offer h (x ∷ xs) ∷ [])

  in_region : (y : Extent) → IsMade c (p.block r) h r y → region_at c h y.start ≡ r
  in_region y m = made_region c h sound o.host (p.block r) r y (present_whole c sound p before.stands r o.made.0.known) m

  -- what it opens
  opens : (u : Tag) → has_tag after.tags u ≡ true → (has_tag p.tags u ≡ true) ⊎ ((u ≡ t) × ((region_spec c r).shareable ≡ true) × (has_tag p.tags t ≡ false))
  opens u e = by_case (region_spec c (region_at c h x.start)).shareable (has_tag p.tags x.tag) refl refl e
    where
      by_case : (share is_open : Bool) → (region_spec c (region_at c h x.start)).shareable ≡ share → has_tag p.tags x.tag ≡ is_open → has_tag (if share && not is_open then p.tags ++ x.tag ∷ [] else p.tags) u ≡ true
          → (has_tag p.tags u ≡ true) ⊎ ((u ≡ t) × ((region_spec c r).shareable ≡ true) × (has_tag p.tags t ≡ false))
      by_case false is_open shared was e = inl e
      by_case true true shared was e = inl e
      by_case true false shared was e =
          let either : (has_tag p.tags u || (same_tag u x.tag || false)) ≡ true = sym (list_any-append (same_tag u) p.tags (x.tag ∷ [])) ∙ e in
          elim (cases_Bool (has_tag p.tags u)) [
            | inl before ↦ inl before
            | inr new ↦ elim (cases_Bool (same_tag u x.tag)) [
              | inr other ↦ absurd (false≢true (rw (new, other) at either))
              | inl same ↦ inr (same_tag-is u x.tag same ∙ o.marked.0, ap (λ k. (region_spec c k).shareable) (sym (in_region x o.made.0)) ∙ shared, ap (has_tag p.tags) (sym o.marked.0) ∙ was)
            ]
          ]

  -- a host's extent has none of them
  old_closed : (k : HostId) (y : Extent) → has_extent_of y.tag (extents_at p k) ≡ true → IsClosed c p k y → IsClosed c after k y
  old_closed k y among was private = false_from_ne_true (has_tag after.tags y.tag) (λ now. elim (opens y.tag now) [
    | inl open_before_it ↦ false≢true (sym (was private) ∙ open_before_it)
    | inr new ↦ (let nonzero : is_zero_tag t ≡ false = elim way [
      | inl fresh ↦ fresh.nonzero new.1
      | inr shared ↦ absurd (false≢true (sym new.2 ∙ shared.opened))
    ] in
        let host : k < c.hosts = is_host c p before.stands k (some_of (extents_at p k) among) in
        let alive : lives c p t ≡ true = and_from (not (is_zero_tag t)) (is_with_a_host c p t || p.referenced t) (not_from_false (is_zero_tag t) nonzero)
        (or_left (is_with_a_host c p t) (p.referenced t) (host_keeps c p k t host (ap (λ u. has_extent_of u (extents_at p k)) (sym new.0) ∙ among))) in
        false≢true (sym (dead new.2) ∙ alive))
  ])
    where
      some_of : (ys : List Extent) → has_extent_of y.tag ys ≡ true → 0 < length ys
      some_of [] e = absurd (false≢true e)
      some_of (z ∷ zs) e = omega arith

  new_closed : AllByRecursion (IsClosed c after h) (x ∷ xs)
  new_closed = each-both (IsMade c (p.block r) h r) (λ y. y.tag ≡ t) (IsClosed c after h) (λ y m tag private. false_from_ne_true (has_tag after.tags y.tag) (λ now.
      let outside : (region_spec c r).shareable ≡ false = ap (λ k. (region_spec c k).shareable) (sym (in_region y m)) ∙ private in
      elim (opens y.tag now) [
        | inr new ↦ false≢true (sym outside ∙ new.1)
        | inl was ↦ elim way [
          | inl fresh ↦ false≢true (sym fresh.closed ∙ ap (has_tag p.tags) (sym tag) ∙ was)
          | inr shared ↦ false≢true (sym outside ∙ shared.shareable)
        ]
      ])) (x ∷ xs) o.made o.marked

  pub offer_closed : AreClosed c (picture_after c p (Effect.Offer h (x ∷ xs) ∷ []))
  offer_closed k = elim (cases_Bool (h == k)) [
    | inr other ↦ rw other (old k)
    | inl same ↦ (let is : h ≡ k = eqb-true h k same in
        let at_host : p.accepted h ++ flat_map (λ ys. ys) (p.offers h ++ (x ∷ xs) ∷ []) ≡ extents_at p h ++ (x ∷ xs) =
        ap (λ ys. p.accepted h ++ ys) (flat-push (p.offers h) (x ∷ xs)) ∙ sym (append_assoc (p.accepted h) (flat_map (λ ys. ys) (p.offers h)) (x ∷ xs)) in
        rw same (subst (λ l. AllByRecursion (IsClosed c after l) (p.accepted l ++ flat_map (λ ys. ys) (p.offers l ++ (x ∷ xs) ∷ []))) is
        (subst (AllByRecursion (IsClosed c after h)) (sym at_host) (each-append (IsClosed c after h) (extents_at p h) (x ∷ xs) (old h) new_closed))))
  ]
    where
      old : (k : HostId) → AllByRecursion (IsClosed c after k) (extents_at p k)
      old k = each-tagged (IsClosed c p k) (IsClosed c after k) (extents_at p k) (λ y among was. old_closed k y among was) (closed k)

-- ---- the whole command: its tags may end

pub fewer_closed : (c : Configuration) (q r : Picture) → ((h : HostId) → extents_at r h ≡ extents_at q h) → ((t : Tag) → has_tag r.tags t ≡ true → has_tag q.tags t ≡ true) → AreClosed c q → AreClosed c r
fewer_closed c q r same tags closed h =
    subst (AllByRecursion (IsClosed c r h)) (sym (same h)) (each-change (IsClosed c q h) (IsClosed c r h) (λ x was private. tag_closed q r tags x.tag (was private)) (extents_at q h) (closed h))

pub outcome_less : (c : Configuration) (past : List Effect) (o : Outcome) → IsLess (picture_of c past) (picture_after c (picture_of c past) o.changes) → IsLess (picture_of c past) (picture_of c (past ++ effects_of c past o))
outcome_less c past o less =
    let q : Picture = picture_after c (picture_of c past) o.changes in
    let over : List Tag = ended c past o.changes o.tags in
    subst (IsLess (picture_of c past)) (sym (picture-outcome c past o)) (record { parts = less.parts; tags = λ t e. less.tags t (open_before q.tags over t e) })
