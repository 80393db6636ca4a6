-- What a command of a host changes beside its lists: its log, by clearing alone, and no block size.
use Rattle.std.proofs.Common.{◌≡◌, ℕ, Bool, true, false, List, None, refl, sym, ap, subst, ◌∙◌}
use Rattle.std.{specs.Prelude.fold, specs.List.list_all, proofs.lemmas.Bool.false≢true}
use Rattle.dcd_base.specs.declared.{ids.HostId.HostId, steps.LogId.LogId}
use Rattle.event_log.specs.{Logs.IsHistory, Logs.IsLogOf, LogStates.LogState}
use Rattle.host_payloads.specs.declared.requests.HostRequest.{HostRequest}
use Rattle.journal_core.specs.declared.outcome.Effect.{Effect}
use Rattle.region_config.specs.{Configurations.Configuration, Granules.with_blocks}
use Rattle.control_core.specs.device_rules.proofs.Clearing.{own_clear-history}
use Rattle.control_core.specs.device_rules.proofs.EffectKinds.{PassClearing, PassHeld, PassLists, clear_passes, give_back_passes, respond_passes}
use Rattle.control_core.specs.device_rules.proofs.{Leaving.all_pass, Leaving.over-leaving, LogHistories.leaves_logs, LogHistories.log-left, LogOutcomes.held_leaves, LogOutcomes.lists_leave}
use Rattle.control_core.specs.device_rules.{proofs.Rooms.records_none, proofs.Rooms.rooms_none, specs.Answers.host_outcome, specs.Answers.host_rule, specs.Hosts.block_after, specs.Logs.log_after}
use Rattle.control_core.specs.device_rules.specs.{ReleaseOutcomes.give_back_changes, ResponseOutcomes.respond_changes, Views.View, Views.view_after}
use Rattle.control_core.specs.device_state.{proofs.RecordSteps.log_all, specs.Entered.log_by}

-- no block size and no record
abbrev pub is_own : Effect → Bool
is_own (Effect.Block r size) = false
is_own (Effect.Logged l event) = false
is_own e = true

held_own : (h : HostId) → PassHeld is_own h
held_own h = record { hold = λ kind xs. refl; unhold = λ kind. refl }

module _ (c : Configuration) (h : HostId) (v : View) where
  -- what a test passes that clearing, held lists and lists pass
  changes_pass : (p : Effect → Bool) → PassClearing p (LogId.Host h) → PassHeld p h → PassLists p h → (q : HostRequest) → list_all p (host_outcome c h v q).changes ≡ true
  changes_pass p clears held lists (HostRequest.GetEvents log) = refl
  changes_pass p clears held lists (HostRequest.ClearEvents number all handles) = clear_passes p (LogId.Host h) clears number v.log all handles
  changes_pass p clears held lists (HostRequest.GetConfiguration count first) = refl
  changes_pass p clears held lists (HostRequest.GetExtents count first) = refl
  changes_pass p clears held lists (HostRequest.AddResponse more xs) = respond_passes p h held lists c v.offers v.responses more xs
  changes_pass p clears held lists (HostRequest.GiveBack more xs) = give_back_passes p h held lists c v.releases more xs

  pub own_changes : (q : HostRequest) → list_all is_own (host_outcome c h v q).changes ≡ true
  own_changes q = changes_pass is_own (record { cleared = λ n. refl; reset = refl }) (held_own h) (record { answer = λ xs. refl; take = λ run. refl; leave = λ run. refl }) q

  -- ---- the blocks

  block_stays : (r size : ℕ) (e : Effect) → is_own e ≡ true → block_after r size e ≡ size
  block_stays r size (Effect.Block s new) own = absurd (false≢true own)
  block_stays r size e own = refl

  pub blocks_stay : (new : List Effect) → list_all is_own new ≡ true → with_blocks c v.block ≡ with_blocks c (view_after c h v new).block
  blocks_stay new own = λ i. with_blocks c (λ r. sym (over-leaving (block_after r) is_own (block_stays r) (v.block r) new own) i)

  -- ---- the log

  still : (new : List Effect) → list_all leaves_logs new ≡ true → IsHistory v.log → IsHistory (fold (log_after (LogId.Host h)) v.log new)
  still new left is = subst IsHistory (sym (over-leaving (log_after (LogId.Host h)) leaves_logs (log-left (LogId.Host h)) v.log new left)) is

  pub history_after : (q : HostRequest) → host_rule c h v q ≡ None → IsHistory v.log → IsHistory (fold (log_after (LogId.Host h)) v.log (host_outcome c h v q).changes)
  history_after (HostRequest.GetEvents log) rule is = is
  history_after (HostRequest.ClearEvents number all handles) rule is = own_clear-history (LogId.Host h) v.log number all handles is rule
  history_after (HostRequest.GetConfiguration count first) rule is = is
  history_after (HostRequest.GetExtents count first) rule is = is
  history_after (HostRequest.AddResponse more xs) rule is = still (respond_changes c h v.offers v.responses more xs) (respond_passes leaves_logs h (held_leaves h) (lists_leave h) c v.offers v.responses more xs) is
  history_after (HostRequest.GiveBack more xs) rule is = still (give_back_changes c h v.releases more xs) (give_back_passes leaves_logs h (held_leaves h) (lists_leave h) c v.releases more xs) is

  no_records : (e : Effect) → is_own e ≡ true → records_none e ≡ true
  no_records (Effect.Logged l event) own = absurd (false≢true own)
  no_records (Effect.Block r size) own = refl
  no_records e own = refl

  -- the log that the device keeps goes on as the history does
  pub log_stays : (log : LogState) (new : List Effect) → IsLogOf (LogId.Host h) v.log log → list_all is_own new ≡ true → IsHistory (fold (log_after (LogId.Host h)) v.log new) →
      IsLogOf (LogId.Host h) (view_after c h v new).log (fold (log_by (LogId.Host h)) log new)
  log_stays log new was own told = record {
    is = ap (λ (s : LogState). fold (log_by (LogId.Host h)) s new) was.is
        ∙ log_all (LogId.Host h) v.log new (rooms_none (LogId.Host h) v.log new (all_pass is_own records_none no_records new own));
    told = told;
  }
