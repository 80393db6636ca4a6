-- A log is cleared, an offer is let go, granules are zeroed: what is left of the hosts' lists.
use Rattle.std.proofs.Common.{◌≡◌, ℕ, ◌+◌, ◌<◌, Bool, true, false, not, ◌&&◌, ◌==◌, List, [], ◌∷◌, ◌++◌, length, map, None, refl, ap, sym, subst, ◌∙◌, inl, arith, append-nil, length-drop}
use Rattle.std.proofs.lemmas.{Bool.eq-eqb, Bool.eqb-true, List.drop_all, List.length-map, List.length-take, List.Sums.fold-append}
use Rattle.std.specs.{List.list_all, Prelude.drop, Prelude.fold, Prelude.if◌then◌else◌, Prelude.option_map}
use Rattle.dcd_base.specs.declared.{capacity.Extent.Extent, ids.HostId.HostId, steps.LogId.LogId}
use Rattle.event_log.specs.{LogStates.clear_fault, Logs.Log, Logs.cleared_of, Logs.empty_log, Logs.records_in}
use Rattle.event_records.specs.declared.events.Event.{Event}
use Rattle.host_payloads.specs.declared.requests.HostRequest.{HostRequest}
use Rattle.offer_core.specs.InOrder.{AreSome, none as no_more, left as without, SameAddresses}
use Rattle.region_config.specs.{Configurations.Configuration, Soundness.IsSound}
use Rattle.journal_core.specs.{Entries.effects, declared.entries.Entry.Entry, declared.outcome.Effect.Effect, declared.outcome.HeldKind.HeldKind, declared.acts.Reply.Reply}
use Rattle.isolation_laws.{proofs.RemovalViews.no_block as leaves_blocks, specs.device_rules.proofs.EffectKinds.clear_passes, specs.device_rules.proofs.EffectKinds.zeroes_pass}
use Rattle.isolation_laws.specs.device_rules.proofs.{InOrderResponses.legal_allows, Leaving.over-leaving, LogHistories.leaves_logs, LogHistories.log-left, LogSteps.same_log-self}
use Rattle.isolation_laws.specs.device_rules.specs.{Answers.host_outcome, Answers.scrubbed, Answers.zeroes, EventCommands.cleared, EventCommands.rule_of}
use Rattle.isolation_laws.specs.device_rules.specs.{Hosts.accepted_after, Hosts.accepted_of, Hosts.offers_after, Hosts.offers_of, Hosts.held_of, Legal.Legal}
use Rattle.isolation_laws.specs.device_rules.specs.{Logs.log_after, Logs.log_of, Logs.same_log, Outcomes.Outcome, Outcomes.effects_of}
use Rattle.isolation_laws.specs.device_rules.specs.{ResponseOutcomes.answered, ResponseOutcomes.respond_changes, ResponseOutcomes.unhold, Tags.dirty_granules, Views.view_after, Views.view_of}
use Rattle.plan_rules.{proofs.Answering.host_does, proofs.KeptLogs.other_log, proofs.KeptLogs.response_kept, specs.Kept.KeepsHosts, specs.Kept.KeepsOthers}
use Rattle.plan_rules.specs.LettingGo.{ClearsWholeLogs, IsOfferLetGo, LetsOffersGo, ScrubsKeep, log_handles}
use Rattle.plan_rules.proofs.Keeping.{blocks_over, host_kept, leaves_held, leaves_host, others_kept, outcome_accepted, outcome_blocks, outcome_held, outcome_host_kept, outcome_offers}

-- ---- a log

-- all handles are those of the records, in order
all_in_place : (records : List Event) → clear_fault (map (λ (e : Event). e.handle) records) records ≡ None
all_in_place [] = refl
all_in_place (e ∷ records) = rw (eq-eqb e.handle e.handle refl) (all_in_place records)

-- and so the log is empty then
nothing_left : (l : LogId) (log : Log) (n : ℕ) → n ≡ length (records_in log) → records_in (fold (log_after l) log (cleared l n)) ≡ []
nothing_left l log n is = by (n == 0) refl
  where
    past_end : (xs : List Event) (n m : ℕ) → m ≡ length (drop n xs) → drop (n + m) xs ≡ []
    past_end xs n m e = drop_all (n + m) xs (omega (arith, e, length-drop n xs))

    by : (none : Bool) → (n == 0) ≡ none → records_in (fold (log_after l) log (if none then [] else Effect.Cleared l n ∷ [])) ≡ []
    by true empty = no_records (records_in log) (sym is ∙ eqb-true n 0 empty)
      where
        no_records : (xs : List Event) → length xs ≡ 0 → xs ≡ []
        no_records [] e = refl
        no_records (x ∷ xs) e = absurd (omega (arith, e))
    by false some = ap (λ b. records_in (if b then cleared_of n log else log)) (same_log-self l) ∙ past_end log.ever log.cleared n is

cleared-other : (k l : LogId) (log : Log) (n : ℕ) → same_log k l ≡ false → fold (log_after l) log (cleared k n) ≡ log
cleared-other k l log n apart = by (n == 0)
  where
    by : (none : Bool) → fold (log_after l) log (if none then [] else Effect.Cleared k n ∷ []) ≡ log
    by true = refl
    by false = ap (λ own. if own then cleared_of n log else log) apart

pub clears_whole_logs : (c : Configuration) (journal : List Entry) → ClearsWholeLogs c journal
clears_whole_logs c journal h q read =
    let past : List Effect = effects journal in
    let handles : List ℕ = log_handles h past in
    let l : LogId = LogId.Host h in
    let log : Log = log_of (LogId.Host h) (effects journal) in
    let o : Outcome = host_outcome c h (view_of c h journal) (HostRequest.ClearEvents 4 false (log_handles h (effects journal))) in
    let does = host_does c journal q h (HostRequest.ClearEvents 4 false handles) read (ap (option_map rule_of) (all_in_place (records_in log))) refl in
    let keeps : KeepsHosts c (effects journal) (effects journal ++ effects_of c (effects journal) o) = record {
      hosts = λ k. outcome_host_kept c k past o (clear_passes (leaves_host k) l (record { cleared = λ n. refl; reset = refl }) 4 log false handles);
      blocks = λ r. outcome_blocks c r past o (clear_passes leaves_blocks l (record { cleared = λ n. refl; reset = refl }) 4 log false handles);
    } in
    let emptied : records_in (log_of (LogId.Host h) (effects journal ++ effects_of c (effects journal) o)) ≡ [] =
    ap records_in (fold-append (log_after l) empty_log past (effects_of c past o) ∙ ap (fold (log_after l) log) (append-nil (o.changes ++ []) ∙ append-nil o.changes))
    ∙ nothing_left l log (length handles) (length-map (records_in log) (λ (e : Event). e.handle)) in
    record {
      succeeds = does.succeeds;
      keeps = subst (λ new. KeepsHosts c (effects journal) (effects journal ++ new)) (sym does.effects) keeps;
      emptied = subst (λ new. records_in (log_of (LogId.Host h) (effects journal ++ new)) ≡ []) (sym does.effects) emptied;
      logs = λ k apart. subst (λ new. log_of (LogId.Host k) (effects journal ++ new) ≡ log_of (LogId.Host k) (effects journal)) (sym does.effects)
          (fold-append (log_after (LogId.Host k)) empty_log past (effects_of c past o) ∙ ap (fold (log_after (LogId.Host k)) (log_of (LogId.Host k) past)) (append-nil (o.changes ++ []) ∙ append-nil o.changes)
          ∙ cleared-other l (LogId.Host k) (log_of (LogId.Host k) past) (length handles) (other_log h k apart));
    }

-- ---- an offer

none_of : (offer : List Extent) → AreSome SameAddresses [] offer
none_of [] = no_more
none_of (x ∷ xs) = without (none_of xs)

pub lets_offers_go : (c : Configuration) → IsSound c → (journal : List Entry) → Legal c journal → LetsOffersGo c journal
lets_offers_go c sound journal legal h q alone some read = by (offers_of h (effects journal)) refl some
  where
    past : List Effect
    past = effects journal

    o : Outcome
    o = host_outcome c h (view_of c h journal) (HostRequest.AddResponse false [])

    by : (offers : List (List Extent)) → offers_of h (effects journal) ≡ offers → 0 < length offers → IsOfferLetGo c journal h q
    by [] oldest more = absurd (omega (arith, more))
    by (offer ∷ later) oldest more =
        let row = legal_allows c sound journal legal h [] (record { offer = offer; later = later; oldest = oldest; alone = alone; some = none_of offer; shared = λ shared. inl refl }) in
        let does = host_does c journal q h (HostRequest.AddResponse false []) read row refl in
        let changed : o.changes ≡ Effect.Answer h [] ∷ [] = (λ i. unhold h HeldKind.Responses (alone i) ++ answered c h (oldest i) (alone i ++ [])) in
        let mine : (k : HostId) → (h == k) ≡ false → list_all (leaves_host k) o.changes ≡ true = λ k apart. ap (list_all (leaves_host k)) changed ∙ ap (λ b. not b && true) apart in
        record {
          succeeds = does.succeeds;
          keeps = subst (λ new. KeepsOthers c h (effects journal) (effects journal ++ new)) (sym does.effects)
              (others_kept c h past o mine (λ kind. outcome_held c h kind past o (ap (list_all leaves_held) changed)) (ap (list_all leaves_blocks) changed));
          accepted = subst (λ new. accepted_of c h (effects journal ++ new) ≡ accepted_of c h (effects journal)) (sym does.effects)
              (outcome_accepted c h past o ∙ ap (fold (accepted_after c h) (accepted_of c h past)) changed ∙ same (h == h));
          offers = subst (λ new. offers_of h (effects journal ++ new) ≡ drop 1 (offers_of h (effects journal))) (sym does.effects)
              (outcome_offers c h past o ∙ ap (fold (offers_after h) (offers_of h past)) changed ∙ ap (λ b. if b then drop 1 (offers_of h past) else offers_of h past) (eq-eqb h h refl));
          logs = λ k. subst (λ new. log_of (LogId.Host k) (effects journal ++ new) ≡ log_of (LogId.Host k) (effects journal)) (sym does.effects)
              (response_kept c past o (ap (list_all leaves_logs) changed) h k (view_after c h (view_of c h journal) (respond_changes c h (offers_of h past) (held_of h HeldKind.Responses past) false [])) (offers_of h past) (held_of h HeldKind.Responses past ++ []) refl);
        }
      where
        same : (b : Bool) → (if b then accepted_of c h (effects journal) ++ [] else accepted_of c h (effects journal)) ≡ accepted_of c h (effects journal)
        same true = append-nil (accepted_of c h (effects journal))
        same false = refl

-- ---- a scrub

pub scrubs_keep : (c : Configuration) (journal : List Entry) → ScrubsKeep c journal
scrubs_keep c journal n =
    let past : List Effect = effects journal in
    let gs : List ℕ = scrubbed c past n in
    record {
      reply = ap Reply.Scrubbed (length-take n (dirty_granules c past));
      keeps = record {
        hosts = λ k. host_kept c k past (zeroes c gs) (zeroes_pass (leaves_host k) (λ run. refl) c gs);
        blocks = λ r. blocks_over c r past (zeroes c gs) (zeroes_pass leaves_blocks (λ run. refl) c gs);
      };
      logs = λ l. fold-append (log_after l) empty_log past (zeroes c gs) ∙ over-leaving (log_after l) leaves_logs (log-left l) (log_of l past) (zeroes c gs) (zeroes_pass leaves_logs (λ run. refl) c gs);
    }
