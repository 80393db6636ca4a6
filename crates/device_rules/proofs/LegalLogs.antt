-- After every legal journal each log is one that its history tells, and no record of a host's log ever found it full.
use Rattle.std.proofs.Common.{◌≡◌, ℕ, zero, suc, ◌+◌, ◌<◌, ◌≤◌, Bool, true, false, List, [], ◌∷◌, ◌++◌, None, length, inl, inr, refl, sym, ap, subst, ◌∙◌, arith, append-nil}
use Rattle.std.{proofs.lemmas.Bool.cases_eq, proofs.lemmas.Bool.ne_eqb, proofs.lemmas.List.Sums.fold-append, specs.List.list_all, specs.List.range_with_len}
use Rattle.std.specs.Prelude.{fold, map, if◌then◌else◌}
use Rattle.cci_codec.specs.dcd_base.specs.declared.{capacity.Extent.Extent, capacity.Tag.Tag, ids.HostId.HostId, steps.LogId.LogId}
use Rattle.extent_list.specs.{dcd_codes.specs.Rules.first_by, media_map.specs.region_config.proofs.Searches.or_parts, media_map.specs.region_config.specs.Configurations.Configuration}
use Rattle.event_log.{proofs.Histories.begins, specs.Logs.IsHistory, specs.Logs.Log, specs.Logs.empty_log, specs.Logs.room_in}
use Rattle.event_records.specs.declared.events.{Event.Event, EventKind.EventKind}
use Rattle.fm_payloads.specs.declared.requests.FmRequest.{FmRequest}
use Rattle.host_payloads.specs.declared.requests.HostRequest.{HostRequest}
use Rattle.journal_core.{proofs.JournalSteps.effects-push, specs.Entries.effects, specs.declared.entries.Entry.Entry, specs.declared.outcome.Effect.Effect}
use Rattle.device_rules.proofs.{Clearing.clear-history, Clearing.clear-spares, EffectKinds.reference_passes, EffectKinds.removals_pass, EffectKinds.unhold_passes, EffectKinds.zeroes_pass}
use Rattle.device_rules.proofs.{Leaving.both_pass, LegalSteps.Cases, LegalSteps.by_steps, LegalSteps.step_case}
use Rattle.device_rules.proofs.LogHistories.{leaves_logs, told, entered_all-history, entered_all-other, entered_all-spares, none_missed}
use Rattle.device_rules.specs.Adding.{add_outcome, add_rule, offered}
use Rattle.device_rules.specs.Answers.{host_outcome, host_rule, manager_outcome, manager_rule, scrubbed, zeroes}
use Rattle.device_rules.specs.{EventCommands.clear_changes, EventCommands.clear_outcome, EventCommands.clear_rule, Legal.Legal, Legal.Meets, LogLaws.LogsKept, LogLaws.spares_hosts}
use Rattle.device_rules.specs.Logs.{log_after, log_of, same_log}
use Rattle.device_rules.specs.Outcomes.{effects_of, entered_all, log_full, no_extent, record_for, records_of_extents}
use Rattle.device_rules.specs.ReleaseOutcomes.{is_cleaning, is_forced, removals, remove_outcome, remove_rule, removed}
use Rattle.device_rules.specs.{ResponseOutcomes.unhold, Settings.set_outcome, TagCommands.add_reference_outcome, TagCommands.remove_reference_outcome, Tags.is_referenced}
use Rattle.device_rules.specs.Views.{View, view_after, view_of}
use Rattle.device_rules.proofs.LogOutcomes.{Keeps, held_leaves, kept_host, kept_release, kept_response, kept_still, kept_told, last_of, length-log_records, room_for}

-- ---- a record for each host

-- what 5602h tells: one record to each of these hosts
abbrev each_told : List Effect → (HostId → Event) → ℕ → ℕ → List Effect
each_told past event a n = told past (map (λ h. (LogId.Host h, event h ∷ [])) (range_with_len a n))

-- a log of none of them stays
told_none : (past : List Effect) (event : HostId → Event) (l : LogId) (log : Log) (a n : ℕ) → ((k : ℕ) → a ≤ k → same_log (LogId.Host k) l ≡ false) →
    fold (log_after l) log (each_told past event a n) ≡ log
told_none past event l log a zero apart = refl
told_none past event l log a (suc n) apart =
    fold-append (log_after l) log (entered_all (LogId.Host a) (log_of (LogId.Host a) past) (event a ∷ [])) (each_told past event (a + 1) n)
    ∙ ap (λ b. fold (log_after l) b (each_told past event (a + 1) n)) (entered_all-other (LogId.Host a) l log (log_of (LogId.Host a) past) (event a ∷ []) (apart a (omega arith)))
    ∙ told_none past event l log (a + 1) n (λ k from. apart k (omega (arith, from)))

-- that of one of them gets its record
told_each : (past : List Effect) (event : HostId → Event) (i : HostId) (a n : ℕ) → IsHistory (log_of (LogId.Host i) past) →
    IsHistory (fold (log_after (LogId.Host i)) (log_of (LogId.Host i) past) (each_told past event a n))
told_each past event i a zero is = is
told_each past event i a (suc n) is =
    let rest : List Effect = each_told past event (a + 1) n in
    let own : LogId = LogId.Host i in
    subst IsHistory (sym (fold-append (log_after own) (log_of own past) (entered_all (LogId.Host a) (log_of (LogId.Host a) past) (event a ∷ [])) rest))
    (elim (cases_eq a i) [
      | inl same ↦ subst (λ k. IsHistory (fold (log_after own) (fold (log_after own) (log_of own past) (entered_all (LogId.Host k) (log_of (LogId.Host k) past) (event a ∷ []))) rest)) (sym same)
          (subst IsHistory (sym (told_none past event own (fold (log_after own) (log_of own past) (entered_all own (log_of own past) (event a ∷ []))) (a + 1) n (λ k from. ne_eqb k i (λ e. absurd (omega (arith, e, same, from))))))
          (entered_all-history own (log_of own past) (event a ∷ []) is))
      | inr other ↦ subst (λ b. IsHistory (fold (log_after own) b rest)) (sym (entered_all-other (LogId.Host a) own (log_of own past) (log_of (LogId.Host a) past) (event a ∷ []) (ne_eqb a i other)))
          (told_each past event i (a + 1) n is)
    ])

-- no record finds a log full where the row found room in each
told_room : (past : List Effect) (event : HostId → Event) (all : (l : LogId) → IsHistory (log_of l past)) (before : List HostId) (a n : ℕ) →
    first_by (λ b h. log_full h (log_of (LogId.Host h) past) 1) before (range_with_len a n) ≡ None → list_all spares_hosts (each_told past event a n) ≡ true
told_room past event all before a zero none = refl
told_room past event all before a (suc n) none =
    let parts = or_parts (log_full a (log_of (LogId.Host a) past) 1) (first_by (λ b h. log_full h (log_of (LogId.Host h) past) 1) (before ++ a ∷ []) (range_with_len (a + 1) n)) none in
    both_pass spares_hosts (entered_all (LogId.Host a) (log_of (LogId.Host a) past) (event a ∷ [])) (each_told past event (a + 1) n)
    (entered_all-spares (LogId.Host a) (log_of (LogId.Host a) past) (event a ∷ []) (all (LogId.Host a)).sound (room_for a (log_of (LogId.Host a) past) 1 parts.0))
    (told_room past event all (before ++ a ∷ []) (a + 1) n parts.1)

kept_each : (past : List Effect) (event : HostId → Event) (all : (l : LogId) → IsHistory (log_of l past)) (n : ℕ) →
    first_by (λ b h. log_full h (log_of (LogId.Host h) past) 1) [] (range_with_len 0 n) ≡ None → Keeps past (each_told past event 0 n)
kept_each past event all n none = record { history = history; spared = told_room past event all [] 0 n none }
  where
    history : (l : LogId) → IsHistory (fold (log_after l) (log_of l past) (each_told past event 0 n))
    history (LogId.Host i) = told_each past event i 0 n (all (LogId.Host i))
    history LogId.Manager = subst IsHistory (sym (told_none past event LogId.Manager (log_of LogId.Manager past) 0 n (λ k from. refl))) (all LogId.Manager)

-- ---- each step

module _ (c : Configuration) (before : List Entry) (all : (l : LogId) → IsHistory (log_of l (effects before))) where
  kept_clear : (k : LogId) (number : ℕ) (whole : Bool) (handles : List ℕ) → clear_rule number (log_of k (effects before)) whole handles ≡ None →
      Keeps (effects before) (effects_of c (effects before) (clear_outcome k number (log_of k (effects before)) whole handles))
  kept_clear k number whole handles rule =
      let changes : List Effect = clear_changes k number (log_of k (effects before)) whole handles in
      subst (Keeps (effects before)) (sym (append-nil (changes ++ []) ∙ append-nil changes))
      (record { history = λ l. clear-history (effects before) k number whole handles rule l (all l); spared = clear-spares k number (log_of k (effects before)) whole handles })

  host_kept : (h : HostId) (q : HostRequest) → h < c.hosts → host_rule c h (view_of c h before) q ≡ None →
      Keeps (effects before) (effects_of c (effects before) (host_outcome c h (view_of c h before) q))
  host_kept h (HostRequest.GetEvents log) known rule = kept_still c (effects before) all [] refl
  host_kept h (HostRequest.ClearEvents log whole handles) known rule = kept_clear (LogId.Host h) log whole handles rule
  host_kept h (HostRequest.GetConfiguration count first) known rule = kept_still c (effects before) all [] refl
  host_kept h (HostRequest.GetExtents count first) known rule = kept_still c (effects before) all [] refl
  host_kept h (HostRequest.AddResponse more xs) known rule = kept_response c (effects before) all h (view_of c h before) more xs
  host_kept h (HostRequest.GiveBack more xs) known rule = kept_release c (effects before) all h (view_of c h before) more xs

  add_room : (host policy r bytes : ℕ) (tag : Tag) (xs : List Extent) → add_rule c (effects before) (λ h. view_of c h before) host policy r bytes tag xs ≡ None →
      length (offered c (effects before) host policy r bytes tag xs) ≤ room_in (LogId.Host host) (log_of (LogId.Host host) (effects before))
  add_room host policy r bytes tag xs rule = room_for host (log_of (LogId.Host host) (effects before)) (length (offered c (effects before) host policy r bytes tag xs)) (last_of _ _ rule)

  kept_add : (host policy r bytes : ℕ) (tag : Tag) (xs : List Extent) → add_rule c (effects before) (λ h. view_of c h before) host policy r bytes tag xs ≡ None →
      Keeps (effects before) (effects_of c (effects before) (add_outcome c (effects before) (λ h. view_of c h before) host policy r bytes tag xs))
  kept_add host policy r bytes tag xs rule =
      let new : List Extent = offered c (effects before) host policy r bytes tag xs in
      let events : List Event = records_of_extents host (view_after c host (view_of c host before) (Effect.Offer host new ∷ [])) EventKind.Add new in
      kept_told c (effects before) all (add_outcome c (effects before) (λ h. view_of c h before) host policy r bytes tag xs) refl
      (kept_host c (effects before) all host events (omega (arith, add_room host policy r bytes tag xs rule, length-log_records host (view_after c host (view_of c host before) (Effect.Offer host new ∷ [])) EventKind.Add new)))

  remove_room : (host flags r : ℕ) (tag : Tag) (xs : List Extent) → remove_rule c (λ h. view_of c h before) host flags r tag xs ≡ None →
      length (removed (view_of c host before).accepted flags tag xs) ≤ room_in (LogId.Host host) (log_of (LogId.Host host) (effects before))
  remove_room host flags r tag xs rule = room_for host (log_of (LogId.Host host) (effects before)) (length (removed (view_of c host before).accepted flags tag xs)) (last_of _ _ rule)

  kept_remove : (host flags r : ℕ) (tag : Tag) (xs : List Extent) → remove_rule c (λ h. view_of c h before) host flags r tag xs ≡ None →
      Keeps (effects before) (effects_of c (effects before) (remove_outcome c (λ h. view_of c h before) host flags tag xs))
  kept_remove host flags r tag xs rule =
      let v : View = view_of c host before in
      let going : List Extent = removed v.accepted flags tag xs in
      let changes : List Effect = if is_forced flags then removals c host (is_cleaning flags) going else [] in
      let kind : EventKind = if is_forced flags then EventKind.Forced else EventKind.Release in
      kept_told c (effects before) all (remove_outcome c (λ h. view_of c h before) host flags tag xs) (removals_pass leaves_logs host (λ run. refl) (λ run. refl) c (is_forced flags) (is_cleaning flags) going)
      (kept_host c (effects before) all host (records_of_extents host (view_after c host v changes) kind going) (omega (arith, remove_room host flags r tag xs rule, length-log_records host (view_after c host v changes) kind going)))

  kept_reference : (tag : Tag) → Keeps (effects before) (effects_of c (effects before) (add_reference_outcome (effects before) tag))
  kept_reference tag = kept_told c (effects before) all (add_reference_outcome (effects before) tag) (reference_passes leaves_logs tag refl (is_referenced tag (effects before))) (kept_still c (effects before) all [] refl)

  manager_kept : (q : FmRequest) → manager_rule c (effects before) (λ h. view_of c h before) q ≡ None →
      Keeps (effects before) (effects_of c (effects before) (manager_outcome c (effects before) (λ h. view_of c h before) q))
  manager_kept (FmRequest.GetEvents log) rule = kept_still c (effects before) all [] refl
  manager_kept (FmRequest.ClearEvents log whole handles) rule = kept_clear LogId.Manager log whole handles rule
  manager_kept FmRequest.GetInfo rule = kept_still c (effects before) all [] refl
  manager_kept (FmRequest.GetRegions host count first) rule = kept_still c (effects before) all [] refl
  manager_kept (FmRequest.SetRegion r sanitize size) rule =
      kept_told c (effects before) all (set_outcome c (λ h. view_of c h before) r size) refl
      (kept_each (effects before) (λ h. record (record_for h (view_of c h before) EventKind.RegionUpdated false no_extent) { region = r }) all c.hosts (last_of _ _ rule))
  manager_kept (FmRequest.GetExtentLists host count first) rule = kept_still c (effects before) all [] refl
  manager_kept (FmRequest.Add host policy r bytes tag xs) rule = kept_add host policy r bytes tag xs rule
  manager_kept (FmRequest.Remove host flags r bytes tag xs) rule = kept_remove host flags r tag xs rule
  manager_kept (FmRequest.AddReference tag) rule = kept_reference tag
  manager_kept (FmRequest.RemoveReference tag) rule = kept_told c (effects before) all (remove_reference_outcome tag) refl (kept_still c (effects before) all [] refl)
  manager_kept (FmRequest.ListTags first count) rule = kept_still c (effects before) all [] refl

  cases : Cases c before (Keeps (effects before))
  cases = record {
    nothing = kept_still c (effects before) all [] refl;
    refused = λ h kind xs. kept_still c (effects before) all (unhold h kind xs) (unhold_passes leaves_logs h (held_leaves h) kind xs);
    host = host_kept;
    manager = manager_kept;
    scrub = λ n. kept_still c (effects before) all (zeroes c (scrubbed c (effects before) n)) (zeroes_pass leaves_logs (λ run. refl) c (scrubbed c (effects before) n));
  }

-- ---- the law

goes_on : (c : Configuration) (before : List Entry) (e : Entry) → Legal c before → LogsKept before → Meets c before e → LogsKept (before ++ e ∷ [])
goes_on c before e legal kept meets =
    let keeps : Keeps (effects before) e.effects = step_case c before (Keeps (effects before)) (cases c before kept.history) e meets in
    let spared : list_all spares_hosts (effects before ++ e.effects) ≡ true = both_pass spares_hosts (effects before) e.effects kept.spared keeps.spared in record {
      history = λ l. subst (λ past. IsHistory (log_of l past)) (sym (effects-push before e)) (subst IsHistory (sym (fold-append (log_after l) empty_log (effects before) e.effects)) (keeps.history l));
      spared = subst (λ past. list_all spares_hosts past ≡ true) (sym (effects-push before e)) spared;
      none_missed = λ h. subst (λ past. (log_of (LogId.Host h) past).missed ≡ 0) (sym (effects-push before e)) (none_missed h empty_log (effects before ++ e.effects) spared refl);
    }

pub legal_logs : (c : Configuration) (journal : List Entry) → Legal c journal → LogsKept journal
legal_logs c = by_steps c LogsKept (record { history = λ l. (begins 1).1; spared = refl; none_missed = λ h. refl }) (goes_on c)
