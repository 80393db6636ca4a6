-- Only a scrub zeroes, and it zeroes nothing that a host holds and cannot share.
use Rattle.std.proofs.Common.{◌≡◌, ℕ, zero, suc, ◌+◌, ◌<◌, ◌≤◌, Bool, true, false, ◌||◌, List, [], ◌∷◌, Option, Some, None, map, inl, inr, refl, sym, ap, ◌∙◌, arith}
use Rattle.std.proofs.lemmas.Bool.{and_parts, cases_Bool, cases_eq, false≢true, or_left, or_right}
use Rattle.std.specs.{List.list_all, List.list_any, List.range_with_len, Prelude.◌==◌, declared.result.Result.Result, declared.result.Result.TheVariants.Ok, declared.result.Result.TheVariants.Err}
use Rattle.dcd_base.specs.{Words.has_granule, declared.faults.PayloadFault.PayloadFault as ManagerFault, declared.faults.PayloadFault.PayloadFault as HostFault, declared.ids.HostId.HostId}
use Rattle.dcd_base.specs.declared.steps.{Actor.Actor, LogId.LogId}
use Rattle.extent_list.specs.{dcd_codes.specs.declared.rules.Rule.Rule, media_map.specs.region_config.specs.Configurations.Configuration}
use Rattle.extent_list.specs.media_map.specs.region_config.specs.Granules.{region_of, region_spec, same_region}
use Rattle.fm_payloads.specs.{ManagerPayloads.manager_request, declared.requests.FmRequest.FmRequest}
use Rattle.granule_map.specs.Choices.{joined}
use Rattle.host_payloads.specs.{HostPayloads.host_request, declared.requests.HostRequest.HostRequest}
use Rattle.journal_core.specs.{Entries.effects, Holders.holds, declared.acts.Act.Act, declared.entries.Entry.Entry, declared.outcome.Effect.Effect}
use Rattle.device_rules.proofs.{JoinedRuns.any_taken, JoinedRuns.joined_has, JoinedRuns.passes_there, ListSteps.any-map, RunEffects.run_from}
use Rattle.device_rules.specs.{Legal.is_zeroing, Legal.right_answer, Logs.log_of, Outcomes.Outcome, Outcomes.effects_of}
use Rattle.device_rules.specs.{ReleaseOutcomes.is_cleaning, ReleaseOutcomes.is_forced, ReleaseOutcomes.removed, Tags.dirty_granules, Tags.all_granules, Tags.is_dirty, Tags.is_referenced, Tags.status}
use Rattle.device_rules.specs.Views.{view_of}
use Rattle.device_rules.specs.Answers.{dropped, effects_with, host_outcome, host_result, host_rule, manager_outcome, manager_result, manager_rule, scrubbed, unless, zeroes}
use Rattle.device_rules.proofs.EffectKinds.{PassClearing, PassHeld, PassLists, PassRecords, any_log, clear_passes, dropped_passes, host_passes, outcome_passes, reference_passes, removals_pass, tells_any}

-- ---- what zeroes nothing

abbrev pub is_no_zero : Effect → Bool
is_no_zero (Effect.Zero run) = false
is_no_zero e = true

one_left : (g : ℕ) (e : Effect) → is_no_zero e ≡ true → is_zeroing g e ≡ false
one_left g (Effect.Zero run) none = absurd (false≢true none)
one_left g e none = refl

pub no_zero-left : (g : ℕ) (new : List Effect) → list_all is_no_zero new ≡ true → list_any (is_zeroing g) new ≡ false
no_zero-left g [] all = refl
no_zero-left g (e ∷ new) all = let parts = and_parts (is_no_zero e) (list_all is_no_zero new) all in (λ i. one_left g e parts.0 i || no_zero-left g new parts.1 i)

records : (l : LogId) → PassRecords is_no_zero l
records l = record { logged = λ event. refl; missed = refl }

clearing : (l : LogId) → PassClearing is_no_zero l
clearing l = record { cleared = λ n. refl; reset = refl }

held : (h : HostId) → PassHeld is_no_zero h
held h = record { hold = λ kind xs. refl; unhold = λ kind. refl }

lists : (h : HostId) → PassLists is_no_zero h
lists h = record { answer = λ xs. refl; take = λ run. refl; leave = λ run. refl }

-- a host that passes
pub any_host : (p : ℕ → Bool) (a n k : ℕ) → a ≤ k → k < a + n → p k ≡ true → list_any p (range_with_len a n) ≡ true
any_host p a zero k low high is = absurd (omega (arith, low, high))
any_host p a (suc n) k low high is = elim (cases_eq a k) [
  | inl same ↦ or_left (p a) (list_any p (range_with_len (a + 1) n)) (ap p same ∙ is)
  | inr other ↦ or_right (p a) (list_any p (range_with_len (a + 1) n)) (any_host p (a + 1) n k (omega (arith, low, other)) (omega (arith, high)) is)
]

module _ (c : Configuration) (before : List Entry) where
  outcome : (o : Outcome) → list_all is_no_zero o.changes ≡ true → list_all is_no_zero (effects_of c (effects before) o) ≡ true
  outcome o changes = outcome_passes is_no_zero any_log (λ l is. records l) (λ t. refl) c (effects before) o changes (tells_any o.log_records)

  by_rule : (rule : Option Rule) (o : Outcome) (refused : List Effect) → list_all is_no_zero (effects_of c (effects before) o) ≡ true → list_all is_no_zero refused ≡ true →
      list_all is_no_zero (effects_with c (effects before) refused (unless rule o)) ≡ true
  by_rule None o refused fine broken = fine
  by_rule (Some rule) o refused fine broken = broken

  -- a host's step
  host_request_zeroes : (h : HostId) (opcode : ℕ) (result : Result HostRequest HostFault) →
      list_all is_no_zero (effects_with c (effects before) (dropped h (view_of c h before) opcode) (host_result c h (view_of c h before) result)) ≡ true
  host_request_zeroes h opcode (Ok q) = by_rule (host_rule c h (view_of c h before) q) (host_outcome c h (view_of c h before) q) (dropped h (view_of c h before) opcode)
      (host_passes is_no_zero h (λ t. refl) (records LogId.Manager) (clearing (LogId.Host h)) (held h) (lists h) c (effects before) (view_of c h before) q)
      (dropped_passes is_no_zero h (held h) (view_of c h before) opcode)
  host_request_zeroes h opcode (Err fault) = dropped_passes is_no_zero h (held h) (view_of c h before) opcode

  pub host_zeroes : (h : HostId) (act : Act) → list_all is_no_zero (right_answer c before (Actor.Host h) act).1 ≡ true
  host_zeroes h (Act.Command q) = host_request_zeroes h q.opcode (host_request q.opcode q.payload)
  host_zeroes h (Act.Load d) = refl
  host_zeroes h (Act.Store d value) = refl
  host_zeroes h (Act.Scrub n) = refl

  -- the manager's
  manager_case : (q : FmRequest) → list_all is_no_zero (effects_of c (effects before) (manager_outcome c (effects before) (λ h. view_of c h before) q)) ≡ true
  manager_case (FmRequest.GetEvents log) = refl
  manager_case FmRequest.GetInfo = refl
  manager_case (FmRequest.GetRegions host count first) = refl
  manager_case (FmRequest.GetExtentLists host count first) = refl
  manager_case (FmRequest.ListTags first count) = refl
  manager_case (FmRequest.ClearEvents number all handles) =
      outcome (manager_outcome c (effects before) (λ h. view_of c h before) (FmRequest.ClearEvents number all handles))
      (clear_passes is_no_zero LogId.Manager (clearing LogId.Manager) number (log_of LogId.Manager (effects before)) all handles)
  manager_case (FmRequest.SetRegion r sanitize size) = outcome (manager_outcome c (effects before) (λ h. view_of c h before) (FmRequest.SetRegion r sanitize size)) refl
  manager_case (FmRequest.Add host policy r bytes tag list) = outcome (manager_outcome c (effects before) (λ h. view_of c h before) (FmRequest.Add host policy r bytes tag list)) refl
  manager_case (FmRequest.Remove host flags r bytes tag list) =
      outcome (manager_outcome c (effects before) (λ h. view_of c h before) (FmRequest.Remove host flags r bytes tag list))
      (removals_pass is_no_zero host (λ run. refl) (λ run. refl) c (is_forced flags) (is_cleaning flags) (removed (view_of c host before).accepted flags tag list))
  manager_case (FmRequest.AddReference tag) =
      outcome (manager_outcome c (effects before) (λ h. view_of c h before) (FmRequest.AddReference tag)) (reference_passes is_no_zero tag refl (is_referenced tag (effects before)))
  manager_case (FmRequest.RemoveReference tag) = outcome (manager_outcome c (effects before) (λ h. view_of c h before) (FmRequest.RemoveReference tag)) refl

  manager_request_zeroes : (result : Result FmRequest ManagerFault) → list_all is_no_zero (effects_with c (effects before) [] (manager_result c before result)) ≡ true
  manager_request_zeroes (Ok q) = by_rule (manager_rule c (effects before) (λ h. view_of c h before) q) (manager_outcome c (effects before) (λ h. view_of c h before) q) [] (manager_case q) refl
  manager_request_zeroes (Err fault) = refl

  -- a scrub
  zeroing_has : (g : ℕ) (runs : List (ℕ × ℕ)) → list_any (is_zeroing g) (map (λ (r : ℕ × ℕ). Effect.Zero (run_from r)) runs) ≡ list_any (λ run. has_granule run g) (map run_from runs)
  zeroing_has g runs = any-map (is_zeroing g) (λ (r : ℕ × ℕ). Effect.Zero (run_from r)) runs ∙ sym (any-map (λ run. has_granule run g) run_from runs)

  module _ (g : ℕ) (h : HostId) (known : h < c.hosts) (private : (region_spec c (region_of c g)).shareable ≡ false) (holds_it : holds h g (effects before) ≡ true) where
    clean : is_dirty (status c g (effects before)) ≡ false
    clean = rw (private, any_host (λ k. holds k g (effects before)) 0 c.hosts h (omega arith) (omega (arith, known)) holds_it) refl

    spared : (n : ℕ) → list_any (is_zeroing g) (zeroes c (scrubbed c (effects before) n)) ≡ false
    spared n =
        zeroing_has g (joined (same_region c) (scrubbed c (effects before) n))
        ∙ joined_has (same_region c) (scrubbed c (effects before) n) g
        ∙ elim (cases_Bool (list_any (λ m. m == g) (scrubbed c (effects before) n))) [
          | inr out ↦ out
          | inl here ↦ absurd (false≢true (sym clean ∙ passes_there (λ m. is_dirty (status c m (effects before))) g (all_granules c) (any_taken (λ m. m == g) n (dirty_granules c (effects before)) here)))
        ]

    pub none_zeroed : (actor : Actor) (act : Act) → list_any (is_zeroing g) (right_answer c before actor act).1 ≡ false
    none_zeroed (Actor.Host k) act = no_zero-left g (right_answer c before (Actor.Host k) act).1 (host_zeroes k act)
    none_zeroed Actor.Manager (Act.Command q) = no_zero-left g (right_answer c before Actor.Manager (Act.Command q)).1 (manager_request_zeroes (manager_request q.opcode q.payload))
    none_zeroed Actor.Manager (Act.Load d) = refl
    none_zeroed Actor.Manager (Act.Store d value) = refl
    none_zeroed Actor.Manager (Act.Scrub n) = refl
    none_zeroed Actor.Sanitizer (Act.Command q) = refl
    none_zeroed Actor.Sanitizer (Act.Load d) = refl
    none_zeroed Actor.Sanitizer (Act.Store d value) = refl
    none_zeroed Actor.Sanitizer (Act.Scrub n) = spared n
