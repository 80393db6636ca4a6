-- The first part of a plan: each dead host lets all go, and everybody else keeps what it has.
use Rattle.std.proofs.Common.{◌≡◌, ◌≢◌, ℕ, zero, suc, ◌+◌, ◌<◌, ◌≤◌, false, ◌==◌, List, [], ◌∷◌, ◌++◌, length, map, refl, sym, ap, subst, ◌∙◌, inl, inr, arith}
use Rattle.std.{proofs.lemmas.Bool.cases_eq, specs.List.AllByRecursion, specs.List.filter, specs.List.range_with_len}
use Rattle.std.specs.Prelude.{drop, flat_map, if◌then◌else◌, replicate}
use Rattle.dcd_base.specs.{declared.capacity.Extent.Extent, declared.ids.HostId.HostId, declared.steps.LogId.LogId, Words.is_empty, Words.zero_tag}
use Rattle.event_records.specs.declared.events.Event.{Event}
use Rattle.fm_payloads.specs.declared.requests.FmRequest.{FmRequest}
use Rattle.host_payloads.specs.declared.requests.HostRequest.{HostRequest}
use Rattle.region_config.specs.{Configurations.Configuration, Granules.regions_of, Soundness.IsSound}
use Rattle.media_map.specs.Places.{region_at}
use Rattle.journal_core.specs.{Entries.effects, declared.outcome.Effect.Effect, declared.outcome.HeldKind.HeldKind, declared.entries.Entry.Entry}
use Rattle.isolation_laws.specs.device_rules.specs.{Counts.records_of, Hosts.held_of, Hosts.offers_of, Legal.Legal}
use Rattle.plan_rules.proofs.Stillness.{Still, still_all, still_elsewhere, still_others, still_self, still_then}
use Rattle.plan_rules.proofs.UnbrokenActs.{host_legal, manager_legal, stepped-append, unbroken_parts}
use Rattle.plan_rules.proofs.Walks.{AllApart, ApartFrom, IsWalk, LeavesAll, LeavesItem, walk, walk_each, walked}
use Rattle.plan_rules.specs.{ActsLeft.ActsLeaveAll, ActsLeft.Unbroken, ActsLeft.emptying, ActsLeft.journal_behind, Holding.Step, Holding.extents_in_region, Holding.stepped}
use Rattle.plan_rules.specs.Listing.{by_host, by_manager, clearing, let_go, refusals, removal, refusal_step}

-- a host touches all its regions
abbrev pub touches_host : HostId → HostId → ℕ → Type 0
touches_host k h r = k ≡ h

-- What a dead host has left: nothing.
pub record HasNothing (c : Configuration) (h : HostId) (past : List Effect) : Type 0 where
  pub extents : (r : ℕ) → r < length c.regions → extents_in_region c h r past ≡ []
  pub offers : offers_of h past ≡ []

pub range_all : (P : ℕ → Type 0) (a n : ℕ) → ((k : ℕ) → a ≤ k → k < a + n → P k) → AllByRecursion P (range_with_len a n)
range_all P a zero each = tt
range_all P a (suc n) each = (each a (omega arith) (omega arith), range_all P (a + 1) n (λ k from below. each k (omega (arith, from)) (omega (arith, below))))

range_at : (P : ℕ → Type 0) (a n : ℕ) → AllByRecursion P (range_with_len a n) → (k : ℕ) → a ≤ k → k < a + n → P k
range_at P a zero each k from below = absurd (omega (arith, from, below))
range_at P a (suc n) each k from below = elim (cases_eq a k) [
  | inl same ↦ subst P same each.0
  | inr other ↦ range_at P (a + 1) n each.1 k (omega (arith, from, other)) (omega (arith, below))
]

module _ (c : Configuration) (sound : IsSound c) (leave : ActsLeaveAll c) (past : List Effect) where
  -- The host has what it had when the plan was made, and no held list.
  pub record IsReadyToGo (h : HostId) (now : List Effect) : Type 0 where
    pub host : h < c.hosts
    pub held : (kind : HeldKind) → held_of h kind now ≡ []
    pub offers : offers_of h now ≡ offers_of h past
    pub extents : (r : ℕ) → extents_in_region c h r now ≡ extents_in_region c h r past

  module _ (h : HostId) (host : h < c.hosts) where
    -- ---- its log is cleared, which leaves all still

    abbrev pub AllStill : List Entry → List Entry → Type 0
    AllStill a b = (k : HostId) (r : ℕ) → Still c k r (effects a) (effects b)

    pub cleared_by : (handles : List ℕ) (journal : List Entry) → Legal c journal → let acts = if is_empty handles then [] else by_host h (HostRequest.ClearEvents 4 false handles) ∷ [] in
        Legal c (stepped c journal acts) × AllStill journal (stepped c journal acts)
    cleared_by [] journal legal = (legal, λ k r. still_self c k r (effects journal))
    cleared_by (n ∷ handles) journal legal =
        let after = host_legal c journal legal h host (HostRequest.ClearEvents 4 false (n ∷ handles)) in
        (after, still_all c sound journal (journal_behind c journal (by_host h (HostRequest.ClearEvents 4 false (n ∷ handles)))) legal after ((leave journal legal).clears h (n ∷ handles)))

    -- ---- its offers are refused, one after another

    -- What is left while a host lets go: other hosts' regions are still, and so are its own extents.
    pub record LetsOffers (a b : List Entry) (offers : List (List Extent)) : Type 0 where
      pub legal : Legal c b
      pub others : (k : HostId) (r : ℕ) → h ≢ k → Still c k r (effects a) (effects b)
      pub held : (kind : HeldKind) → held_of h kind (effects b) ≡ held_of h kind (effects a)
      pub extents : (r : ℕ) → extents_in_region c h r (effects b) ≡ extents_in_region c h r (effects a)
      pub left : offers_of h (effects b) ≡ offers

    pub refused_all : (offers : List (List Extent)) (journal : List Entry) → Legal c journal → held_of h HeldKind.Responses (effects journal) ≡ [] → offers_of h (effects journal) ≡ offers →
        LetsOffers journal (stepped c journal (replicate (length offers) (refusal_step h))) []
    refused_all [] journal legal held is = record { legal = legal; others = λ k r other. still_self c k r (effects journal); held = λ kind. refl; extents = λ r. refl; left = is }
    refused_all (offer ∷ offers) journal legal held is =
        let next : List Entry = journal_behind c journal (by_host h (HostRequest.AddResponse false [])) in
        let after = host_legal c journal legal h host (HostRequest.AddResponse false []) in
        let one = (leave journal legal).refuses h host held (rw is (omega arith)) in
        let rest = refused_all offers next after (one.keeps.held HeldKind.Responses ∙ held) (one.offers ∙ ap (λ xs. drop 1 xs) is) in
        record {
          legal = rest.legal;
          others = λ k r other. still_then c k r (effects journal) (effects next) _ (still_others c sound journal next legal after h one.keeps k r other) (rest.others k r other);
          held = λ kind. rest.held kind ∙ one.keeps.held kind;
          extents = λ r. rest.extents r ∙ ap (filter (λ (x : Extent). region_at c h x.start == r)) one.accepted;
          left = rest.left;
        }

    -- ---- its extents are removed, region by region

    abbrev IsHere : ℕ → HostId → ℕ → Type 0
    IsHere s k r = (h ≡ k) × (s ≡ r)

    abbrev IsAsPlanned : ℕ → List Effect → Type 0
    IsAsPlanned r now = (r < length c.regions) × (extents_in_region c h r now ≡ extents_in_region c h r past)

    abbrev IsCleared : ℕ → List Effect → List Effect → Type 0
    IsCleared r before now = extents_in_region c h r now ≡ []

    removed_by : (r : ℕ) (journal : List Entry) → Legal c journal → IsAsPlanned r (effects journal) → (xs : List Extent) → extents_in_region c h r past ≡ xs →
        let acts = if is_empty xs then [] else by_manager (FmRequest.Remove h 17 r 0 zero_tag xs) ∷ [] in Unbroken c journal acts → LeavesItem c (IsHere r) (IsCleared r) journal acts
    removed_by r journal legal planned [] is none = record { legal = legal; still = λ k s other. still_self c k s (effects journal); done = planned.1 ∙ is }
    removed_by r journal legal planned (x ∷ xs) is none =
        subst (λ ys. Unbroken c journal (by_manager (FmRequest.Remove h 17 r 0 zero_tag ys) ∷ []) → LeavesItem c (IsHere r) (IsCleared r) journal (by_manager (FmRequest.Remove h 17 r 0 zero_tag ys) ∷ [])) (planned.1 ∙ is) (λ whole.
        let next : List Entry = journal_behind c journal (emptying c h r (effects journal)) in
        let after = manager_legal c journal legal (FmRequest.Remove h 17 r 0 zero_tag (extents_in_region c h r (effects journal))) in
        let left = (leave journal legal).empties h r host planned.0 (rw (planned.1 ∙ is) (omega arith)) whole in
        record { legal = after; still = λ k s other. still_elsewhere c sound journal next legal after h r left.only k s (λ same at. other (same, at)); done = left.none })
        none

    removal_walk : IsWalk c (λ before r. removal c h past r) IsHere IsAsPlanned IsCleared
    removal_walk = record {
      stays_ready = λ r a b still planned. (planned.0, (still h r (refl, refl)).extents ∙ planned.1);
      done_later = λ r a b d still cleared. cleared;
      stays_done = λ r a b d still cleared. (still h r (refl, refl)).extents ∙ cleared;
      one = λ r journal legal planned none. removed_by r journal legal planned (extents_in_region c h r past) refl none;
    }

    range_apart : (a n : ℕ) → AllApart IsHere (range_with_len a n)
    range_apart a zero = tt
    range_apart a (suc n) = (range_all (ApartFrom IsHere a) (a + 1) n (λ k from below s r one two. absurd (omega (arith, one.1, two.1, from))), range_apart (a + 1) n)

    -- ---- all of it

    gone : (journal : List Entry) → Legal c journal → IsReadyToGo h (effects journal) → Unbroken c journal (let_go c past h) → LeavesItem c (touches_host h) (λ before now. HasNothing c h now) journal (let_go c past h)
    gone journal legal ready none =
        let removals : List Step = flat_map (removal c h past) (regions_of c) in
        let parts = unbroken_parts c journal (clearing h past ++ refusals h past) removals none in
        let fronts = unbroken_parts c journal (clearing h past) (refusals h past) parts.0 in
        let one = cleared_by (map (λ (e : Event). e.handle) (records_of (LogId.Host h) past)) journal legal in
        let j1 : List Entry = stepped c journal (clearing h past) in
        let two = refused_all (offers_of h past) j1 one.0 ((one.1 h 0).held HeldKind.Responses ∙ ready.held HeldKind.Responses) ((one.1 h 0).offers ∙ ready.offers) in
        let j2 : List Entry = stepped c j1 (refusals h past) in
        let front : stepped c journal (clearing h past ++ refusals h past) ≡ j2 = stepped-append c journal (clearing h past) (refusals h past) in
        let none_2 = subst (λ j. Unbroken c j removals) front parts.1 in
        let walks : flat_map (removal c h past) (regions_of c) ≡ walk c (λ before r. removal c h past r) j2 (regions_of c) = walk_each c (removal c h past) j2 (regions_of c) in
        let planned : AllByRecursion (λ r. IsAsPlanned r (effects j2)) (regions_of c) = range_all (λ r. IsAsPlanned r (effects j2)) 0 (length c.regions)
        (λ r from below. as_planned j2 r (omega (arith, below)) (two.extents r ∙ (one.1 h r).extents ∙ ready.extents r)) in
        let three = walked c (λ before r. removal c h past r) IsHere IsAsPlanned IsCleared removal_walk (regions_of c) j2 two.legal (range_apart 0 (length c.regions)) planned (subst (Unbroken c j2) walks none_2) in
        let j3 : List Entry = stepped c j2 (walk c (λ before r. removal c h past r) j2 (regions_of c)) in
        let end : stepped c journal (let_go c past h) ≡ j3 = stepped-append c journal (clearing h past ++ refusals h past) removals
        ∙ ap (λ j. stepped c j removals) front ∙ ap (stepped c j2) walks in
        left_by journal (let_go c past h) j3 end three.legal
        (λ k r other. still_then c k r (effects journal) (effects j1) (effects j3) (one.1 k r) (still_then c k r (effects j1) (effects j2) (effects j3) (two.others k r other) (three.still k r (untouched k r other))))
        (cleared_all j2 j3 three.each)
        ((three.still h (length c.regions) (range_all (λ s. IsHere s h (length c.regions) → ⊥) 0 (length c.regions) (λ s from below. past_all s (omega (arith, below))))).offers ∙ two.left)
      where
        as_planned : (now : List Entry) (r : ℕ) → r < length c.regions → extents_in_region c h r (effects now) ≡ extents_in_region c h r past → IsAsPlanned r (effects now)
        as_planned now r below same = (below, same)

        untouched : (k : HostId) (r : ℕ) → h ≢ k → AllByRecursion (λ s. IsHere s k r → ⊥) (regions_of c)
        untouched k r other = range_all (λ s. IsHere s k r → ⊥) 0 (length c.regions) (λ s from below at. other at.0)

        past_all : (s : ℕ) → s < length c.regions → IsHere s h (length c.regions) → ⊥
        past_all s below at = absurd (omega (arith, below, at.1))

        cleared_all : (a b : List Entry) → AllByRecursion (λ r. IsCleared r (effects a) (effects b)) (regions_of c) → (r : ℕ) → r < length c.regions → extents_in_region c h r (effects b) ≡ []
        cleared_all a b each r below = range_at (λ r. extents_in_region c h r (effects b) ≡ []) 0 (length c.regions) each r (omega arith) (omega (arith, below))

        left_by : (journal : List Entry) (acts : List Step) (now : List Entry) → stepped c journal acts ≡ now → Legal c now → ((k : HostId) (r : ℕ) → h ≢ k → Still c k r (effects journal) (effects now)) →
            ((r : ℕ) → r < length c.regions → extents_in_region c h r (effects now) ≡ []) → offers_of h (effects now) ≡ [] →
            LeavesItem c (touches_host h) (λ before now. HasNothing c h now) journal acts
        left_by journal acts now is legal still extents offers = record {
          legal = subst (Legal c) (sym is) legal;
          still = λ k r other. subst (λ j. Still c k r (effects journal) (effects j)) (sym is) (still k r other);
          done = subst (λ j. HasNothing c h (effects j)) (sym is) (record { extents = extents; offers = offers });
        }

  -- ---- all dead hosts

  pub letting_walk : IsWalk c (λ before h. let_go c past h) touches_host IsReadyToGo (λ h before now. HasNothing c h now)
  letting_walk = record {
    stays_ready = λ h a b still ready. record {
      host = ready.host;
      held = λ kind. (still h 0 refl).held kind ∙ ready.held kind;
      offers = (still h 0 refl).offers ∙ ready.offers;
      extents = λ r. (still h r refl).extents ∙ ready.extents r;
    };
    done_later = λ h a b d still done. done;
    stays_done = λ h a b d still done. record { extents = λ r known. (still h r refl).extents ∙ done.extents r known; offers = (still h 0 refl).offers ∙ done.offers };
    one = λ h journal legal ready none. gone h ready.host journal legal ready none;
  }

  pub dead_gone : (hosts : List HostId) (journal : List Entry) → Legal c journal → AllApart touches_host hosts → AllByRecursion (λ h. IsReadyToGo h (effects journal)) hosts →
      Unbroken c journal (flat_map (let_go c past) hosts) → LeavesAll c touches_host (λ h before now. HasNothing c h now) journal hosts (stepped c journal (flat_map (let_go c past) hosts))
  dead_gone hosts journal legal apart ready none =
      let walks = walk_each c (let_go c past) journal hosts in
      subst (λ acts. LeavesAll c touches_host (λ h before now. HasNothing c h now) journal hosts (stepped c journal acts)) (sym walks)
      (walked c (λ before h. let_go c past h) touches_host IsReadyToGo (λ h before now. HasNothing c h now) letting_walk hosts journal legal apart ready (subst (Unbroken c journal) walks none))
