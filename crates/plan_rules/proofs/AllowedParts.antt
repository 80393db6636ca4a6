-- The first three parts of a plan break no rule.
use Rattle.std.proofs.Common.{◌≡◌, ◌≢◌, ℕ, zero, suc, ◌+◌, ◌*◌, ◌<◌, ◌≤◌, Bool, true, false, not, ◌==◌, List, [], ◌∷◌, ◌++◌, length, map, refl, sym, ap, subst, ◌∙◌, arith}
use Rattle.std.{proofs.lemmas.List.Filters.length-filter_both, specs.List.AllByRecursion, specs.List.filter, specs.List.range_with_len}
use Rattle.std.specs.Prelude.{drop, flat_map, if◌then◌else◌, reverse, replicate}
use Rattle.dcd_base.specs.{declared.capacity.Extent.Extent, declared.ids.HostId.HostId, declared.steps.Actor.Actor, declared.steps.LogId.LogId, Words.is_empty, Words.zero_tag, Layouts.spelling}
use Rattle.event_log.specs.Logs.{records_in}
use Rattle.event_records.specs.declared.events.Event.{Event}
use Rattle.host_payloads.specs.{HostPayloads.host_fields, declared.requests.HostRequest.HostRequest}
use Rattle.fm_payloads.specs.{ManagerPayloads.manager_fields, declared.requests.FmRequest.FmRequest}
use Rattle.region_config.specs.{Configurations.Configuration, Granules.regions_of, Soundness.IsSound}
use Rattle.journal_core.specs.{Entries.effects, declared.acts.Act.Act, declared.outcome.Effect.Effect, declared.outcome.HeldKind.HeldKind, declared.entries.Entry.Entry}
use Rattle.isolation_laws.specs.device_rules.{proofs.LegalSound.legal_is_sound, specs.Counts.dirty_count, specs.Counts.records_of}
use Rattle.isolation_laws.specs.device_rules.specs.{Hosts.accepted_of, Hosts.block_of, Hosts.held_of, Hosts.offers_of, Legal.Legal, Logs.log_of, Pictures.picture_of}
use Rattle.plan_rules.proofs.{Acts.behind_is, Acts.refusal_leaves, AllActs.acts_leave}
use Rattle.plan_rules.proofs.DeadHosts.{IsReadyToGo, cleared_by, dead_gone, letting_walk, range_all, refused_all, touches_host}
use Rattle.plan_rules.proofs.{Demanded.IsReadyToLose, Demanded.losing_walk, Demanded.touches_pair, Emptying.accepted_few, Emptying.empties_regions, Heard.clear_heard, Heard.response_heard}
use Rattle.plan_rules.proofs.{LettingGo.clears_whole_logs, LettingGo.lets_offers_go, Meeting.dead_ready, Meeting.lose_ready, PartsGivenBack.giving_allowed, RegionsEmptied.removal_read}
use Rattle.plan_rules.proofs.{UnbrokenActs.host_legal, UnbrokenActs.manager_legal, UnbrokenActs.stepped-append, Walks.AllApart, Walks.all_by, Walks.both_by, WithoutFault.IsFaultless}
use Rattle.plan_rules.specs.{ActsLeft.Unbroken, ActsLeft.emptying, ActsLeft.journal_behind, Holding.Step, Holding.extents_in_region, Holding.stepped, Holding.surplus, Kept.begins_in}
use Rattle.plan_rules.specs.declared.demands.{Demand.Demand, Demands.Demands}
use Rattle.plan_rules.specs.Listing.{by_host, by_manager, clearing, give_back_surplus, last_bytes, let_go, losing, prepared, refusals, removal, zeroing, refusal_step}

-- acts that break no rule, one list behind another
pub unbroken_both : (c : Configuration) (journal : List Entry) (first more : List Step) → Unbroken c journal first → Unbroken c (stepped c journal first) more → Unbroken c journal (first ++ more)
unbroken_both c journal [] more none rest = rest
unbroken_both c journal (s ∷ first) more none rest = (none.0, unbroken_both c (journal_behind c journal s) first more none.1 rest)

module _ (c : Configuration) (sound : IsSound c) where
  module _ (h : HostId) (host : h < c.hosts) where
    -- ---- its log is cleared

    -- What is known behind acts of the host: none was refused, and the other hosts' logs are as they were.
    record Cleared (journal : List Entry) (acts : List Step) : Type 0 where
      none : Unbroken c journal acts
      legal : Legal c (stepped c journal acts)
      empty : records_in (log_of (LogId.Host h) (effects (stepped c journal acts))) ≡ []
      others : (k : HostId) → h ≢ k → log_of (LogId.Host k) (effects (stepped c journal acts)) ≡ log_of (LogId.Host k) (effects journal)

    cleared : (journal : List Entry) → Legal c journal → (records : List Event) → records_in (log_of (LogId.Host h) (effects journal)) ≡ records →
        let handles = map (λ (e : Event). e.handle) records in Cleared journal (if is_empty handles then [] else by_host h (HostRequest.ClearEvents 4 false handles) ∷ [])
    cleared journal legal [] is = record { none = tt; legal = legal; empty = is; others = λ k other. refl }
    cleared journal legal (e ∷ records) is =
        subst (λ rs. Cleared journal (by_host h (HostRequest.ClearEvents 4 false (map (λ (e : Event). e.handle) rs)) ∷ [])) is (
        let handles : List ℕ = map (λ (e : Event). e.handle) (records_in (log_of (LogId.Host h) (effects journal))) in
        let left = clears_whole_logs c journal h (record { tag = 0; opcode = 0x0101; payload = spelling (host_fields (HostRequest.ClearEvents 4 false handles)) }) (clear_heard c journal legal h) in
        let behind = behind_is c journal (by_host h (HostRequest.ClearEvents 4 false handles)) in
        record {
          none = (left.succeeds.unbroken, tt);
          legal = host_legal c journal legal h host (HostRequest.ClearEvents 4 false handles);
          empty = ap (λ past. records_in (log_of (LogId.Host h) past)) behind ∙ left.emptied;
          others = λ k other. ap (log_of (LogId.Host k)) behind ∙ left.logs k other;
        })

    -- ---- its offers are refused

    record Refused (journal : List Entry) (acts : List Step) : Type 0 where
      none : Unbroken c journal acts
      legal : Legal c (stepped c journal acts)
      logs : (k : HostId) → log_of (LogId.Host k) (effects (stepped c journal acts)) ≡ log_of (LogId.Host k) (effects journal)

    refused : (offers : List (List Extent)) (journal : List Entry) → Legal c journal → held_of h HeldKind.Responses (effects journal) ≡ [] → offers_of h (effects journal) ≡ offers →
        Refused journal (replicate (length offers) (refusal_step h))
    refused [] journal legal held is = record { none = tt; legal = legal; logs = λ k. refl }
    refused (offer ∷ offers) journal legal held is =
        let act : Step = by_host h (HostRequest.AddResponse false []) in
        let some : 0 < length (offers_of h (effects journal)) = rw is (omega arith) in
        let left = lets_offers_go c sound journal legal h (record { tag = 0; opcode = 0x4802; payload = spelling (host_fields (HostRequest.AddResponse false [])) }) held some (response_heard [] (omega arith) tt) in
        let kept = refusal_leaves c sound journal legal h held some in
        let next : List Entry = journal_behind c journal act in
        let rest = refused offers next (host_legal c journal legal h host (HostRequest.AddResponse false [])) (kept.keeps.held HeldKind.Responses ∙ held) (kept.offers ∙ ap (λ xs. drop 1 xs) is) in
        record {
          none = (left.succeeds.unbroken, rest.none);
          legal = rest.legal;
          logs = λ k. rest.logs k ∙ ap (log_of (LogId.Host k)) (behind_is c journal act) ∙ left.logs k;
        }

    -- ---- its extents are removed

    AllNew : List ℕ → Type 0
    AllNew [] = Unit {0}
    AllNew (r ∷ rs) = AllByRecursion (λ s. r ≡ s → ⊥) rs × AllNew rs

    range_new : (a n : ℕ) → AllNew (range_with_len a n)
    unfolding AllNew
    range_new a zero = tt
    range_new a (suc n) = (range_all (λ s. a ≡ s → ⊥) (a + 1) n (λ k from below same. omega (arith, from, same)), range_new (a + 1) n)

    record Removed (journal : List Entry) (acts : List Step) : Type 0 where
      none : Unbroken c journal acts
      others : (k : HostId) → h ≢ k → log_of (LogId.Host k) (effects (stepped c journal acts)) ≡ log_of (LogId.Host k) (effects journal)

    -- the records and the extents of the host are no more than its log has places
    HasPlaces : List Entry → Type 0
    HasPlaces journal = length (records_in (log_of (LogId.Host h) (effects journal))) + length (accepted_of c h (effects journal)) ≤ 64

    module _ (past : List Effect) where
      IsThere : ℕ → List Entry → Type 0
      IsThere r journal = (r < length c.regions) × (extents_in_region c h r (effects journal) ≡ extents_in_region c h r past)

      removed_all : (rs : List ℕ) (journal : List Entry) → Legal c journal → AllNew rs → AllByRecursion (λ r. IsThere r journal) rs → HasPlaces journal → Removed journal (flat_map (removal c h past) rs)
      unfolding AllNew IsThere HasPlaces
      removed_all [] journal legal new there places = record { none = tt; others = λ k other. refl }
      removed_all (r ∷ rs) journal legal new there places = by (extents_in_region c h r past) refl (removed_all rs journal legal new.1 there.1 places)
          (λ after ready room. removed_all rs next after new.1 ready room)
        where
          next : List Entry
          next = journal_behind c journal (emptying c h r (effects journal))

          rest : List Step
          rest = flat_map (removal c h past) rs

          by : (xs : List Extent) → extents_in_region c h r past ≡ xs → Removed journal rest →
              (Legal c next → AllByRecursion (λ s. IsThere s next) rs → HasPlaces next → Removed next rest) →
              Removed journal ((if is_empty xs then [] else by_manager (FmRequest.Remove h 17 r 0 zero_tag xs) ∷ []) ++ rest)
          by [] is same go_on = same
          by (x ∷ xs) is same go_on =
              subst (λ ys. Removed journal (by_manager (FmRequest.Remove h 17 r 0 zero_tag ys) ∷ rest)) (there.0.1 ∙ is) (
              let acc : List Extent = accepted_of c h (effects journal) in
              let own : List Extent = extents_in_region c h r (effects journal) in
              let parts : length own + length (filter (λ (y : Extent). not (begins_in c h r y)) acc) ≡ length acc = length-filter_both (begins_in c h r) (λ (y : Extent). not (begins_in c h r y)) (λ y. refl) acc in
              let some : 0 < length own = rw (there.0.1 ∙ is) (omega arith) in
              let left = empties_regions c sound journal legal h r 0 zero_tag (record { tag = 0; opcode = 0x5605; payload = spelling (manager_fields (FmRequest.Remove h 17 r 0 zero_tag own)) }) host there.0.0
              (record { some = some; room = omega (arith, parts, places) }) (removal_read c sound journal legal h host r there.0.0) in
              let behind = behind_is c journal (emptying c h r (effects journal)) in
              let told = ap (λ past. length (records_in (log_of (LogId.Host h) past))) behind ∙ left.told in
              let lost = ap (λ past. length (accepted_of c h past)) behind ∙ ap length left.accepted in
              let more = go_on (manager_legal c journal legal (FmRequest.Remove h 17 r 0 zero_tag own))
              (both_by rs (λ s other was. (was.0, ap (extents_in_region c h s) behind ∙ left.elsewhere s (λ is. other (sym is)) ∙ was.1)) new.0 there.1)
              (omega (arith, told, lost, parts, places)) in
              record {
                none = (left.succeeds.unbroken, more.none);
                others = λ k other. more.others k other ∙ ap (log_of (LogId.Host k)) behind ∙ left.logs k other;
              })

      -- ---- all of it

      gone_allowed : (journal : List Entry) → Legal c journal → IsReadyToGo c sound (acts_leave c sound) past h (effects journal) → log_of (LogId.Host h) (effects journal) ≡ log_of (LogId.Host h) past → Removed journal (let_go c past h)
      unfolding IsThere HasPlaces records_of
      gone_allowed journal legal ready log =
          let one = cleared journal legal (records_in (log_of (LogId.Host h) past)) (ap records_in log) in
          let j1 : List Entry = stepped c journal (clearing h past) in
          let leave = acts_leave c sound in
          let still = (cleared_by c sound leave past h host (map (λ (e : Event). e.handle) (records_in (log_of (LogId.Host h) past))) journal legal).1 in
          let held = (still h 0).held HeldKind.Responses ∙ ready.held HeldKind.Responses in
          let offers = (still h 0).offers ∙ ready.offers in
          let two = refused (offers_of h past) j1 one.legal held offers in
          let kept = refused_all c sound leave past h host (offers_of h past) j1 one.legal held offers in
          let j2 : List Entry = stepped c j1 (refusals h past) in
          let few = accepted_few c sound (picture_of c (effects j2)) (legal_is_sound c sound j2 two.legal) h host in
          let empty : records_in (log_of (LogId.Host h) (effects j2)) ≡ [] = ap records_in (two.logs h) ∙ one.empty in
          let three = removed_all (regions_of c) j2 two.legal (range_new 0 (length c.regions))
          (range_all (λ r. IsThere r j2) 0 (length c.regions) (λ r from below. (omega (arith, below), kept.extents r ∙ (still h r).extents ∙ ready.extents r)))
          (omega (arith, few, ap length empty)) in
          let removals : List Step = flat_map (removal c h past) (regions_of c) in
          let front : stepped c journal (clearing h past ++ refusals h past) ≡ j2 = stepped-append c journal (clearing h past) (refusals h past) in
          let end : stepped c journal (let_go c past h) ≡ stepped c j2 removals = stepped-append c journal (clearing h past ++ refusals h past) removals ∙ ap (λ j. stepped c j removals) front in
          record {
            none = unbroken_both c journal (clearing h past ++ refusals h past) removals (unbroken_both c journal (clearing h past) (refusals h past) one.none two.none)
                (subst (λ j. Unbroken c j removals) (sym front) three.none);
            others = λ k other. ap (λ j. log_of (LogId.Host k) (effects j)) end ∙ three.others k other ∙ two.logs k ∙ one.others k other;
          }

  -- ---- all dead hosts

  module _ (past : List Effect) where
    pub gone_allowed_all : (hosts : List HostId) (journal : List Entry) → Legal c journal → AllApart touches_host hosts →
        AllByRecursion (λ h. IsReadyToGo c sound (acts_leave c sound) past h (effects journal)) hosts → AllByRecursion (λ h. log_of (LogId.Host h) (effects journal) ≡ log_of (LogId.Host h) past) hosts →
        Unbroken c journal (flat_map (let_go c past) hosts)
    gone_allowed_all [] journal legal apart ready logs = tt
    gone_allowed_all (h ∷ hosts) journal legal apart ready logs =
        let one = gone_allowed h ready.0.host past journal legal ready.0 logs.0 in
        let walk = letting_walk c sound (acts_leave c sound) past in
        let left = walk.one h journal legal ready.0 one.none in
        let next : List Entry = stepped c journal (let_go c past h) in
        unbroken_both c journal (let_go c past h) (flat_map (let_go c past) hosts) one.none (gone_allowed_all hosts next left.legal apart.1
        (both_by hosts (λ k other was. walk.stays_ready k (effects journal) (effects next) (λ m r at. left.still m r (λ own. other m r own at)) was) apart.0 ready.1)
        (both_by hosts (λ k other was. one.others k (λ same. other k 0 same refl) ∙ was) apart.0 logs.1))

    -- ---- all who give back

    given_allowed : (x : Demand) (journal : List Entry) → Legal c journal → IsReadyToLose c past x (effects journal) → (none : Bool) →
        Unbroken c journal (if none then [] else by_host x.host (HostRequest.GiveBack false (last_bytes (surplus c past x * block_of c x.region past) (reverse (extents_in_region c x.host x.region past)))) ∷ [])
    given_allowed x journal legal ready true = tt
    given_allowed x journal legal ready false =
        subst (λ s. Unbroken c journal (s ∷ [])) (λ i. by_host x.host (HostRequest.GiveBack false (last_bytes (surplus c past x * ready.block i) (reverse (ready.extents i)))))
        (giving_allowed c sound journal legal x (surplus c past x) ready.plain ready.releases)

    pub given_allowed_all : (xs : List Demand) (journal : List Entry) → Legal c journal → AllApart touches_pair xs → AllByRecursion (λ x. IsReadyToLose c past x (effects journal)) xs →
        Unbroken c journal (flat_map (give_back_surplus c past) xs)
    given_allowed_all [] journal legal apart ready = tt
    given_allowed_all (x ∷ xs) journal legal apart ready =
        let one = given_allowed x journal legal ready.0 (surplus c past x == 0) in
        let walk = losing_walk c sound (acts_leave c sound) past in
        let left = walk.one x journal legal ready.0 one in
        let next : List Entry = stepped c journal (give_back_surplus c past x) in
        unbroken_both c journal (give_back_surplus c past x) (flat_map (give_back_surplus c past) xs) one (given_allowed_all xs next left.legal apart.1
        (both_by xs (λ y other was. walk.stays_ready y (effects journal) (effects next) (λ m r at. left.still m r (λ own. other m r own at)) was) apart.0 ready.1))

  -- ---- the first three parts

  pub prepared_allowed : (journal : List Entry) → Legal c journal → (q : Demands) → IsFaultless c journal q → Unbroken c journal (prepared c journal q)
  prepared_allowed journal legal q fine =
      let past : List Effect = effects journal in
      let leave = acts_leave c sound in
      let gone : List Step = flat_map (let_go c past) q.dead in
      let given : List Step = flat_map (give_back_surplus c past) q.demands in
      let ready_1 = dead_ready c sound leave journal legal q fine in
      let none_1 = gone_allowed_all past q.dead journal legal fine.dead_apart ready_1 (all_by q.dead (λ h ready. refl) ready_1) in
      let buried : List Entry = stepped c journal gone in
      let left = dead_gone c sound leave past q.dead journal legal fine.dead_apart ready_1 none_1 in
      let none_2 = given_allowed_all past q.demands buried left.legal fine.apart (lose_ready c sound leave journal legal q fine buried left.still) in
      let lighter : List Entry = stepped c journal (losing c past q) in
      unbroken_both c journal (losing c past q) (zeroing c (effects lighter)) (unbroken_both c journal gone given none_1 none_2) (scrubs (dirty_count c (effects lighter)) (dirty_count c (effects lighter) == 0) lighter)
    where
      scrubs : (n : ℕ) (none : Bool) (before : List Entry) → Unbroken c before (if none then [] else (Actor.Sanitizer, Act.Scrub n) ∷ [])
      scrubs n true before = tt
      scrubs n false before = (refl, tt)
