-- What a 5604h and a 5605h that break no rule come to.
use Rattle.std.proofs.Common.{◌≡◌, ℕ, ◌<◌, ◌≤◌, List, None, arith, length, refl, subst, sym}
use Rattle.std.specs.Prelude.{All, IfSome}
use Rattle.cci_codec.specs.dcd_base.specs.declared.capacity.{Extent.Extent, Tag.Tag}
use Rattle.fm_payloads.specs.declared.requests.FmRequest.{FmRequest}
use Rattle.extent_list.specs.media_map.specs.region_config.specs.{Configurations.Configuration, Soundness.IsSound}
use Rattle.device_commands.specs.{Drafts.Drafts, declared.draft.Draft.Draft, declared.log_records.LogRecords.LogRecords, device_rules.proofs.Adding.row_of}
use Rattle.device_commands.specs.device_rules.{proofs.GivingSteps.table-removal, proofs.LeavingSteps.removal_row, specs.Answers.manager_outcome, specs.Answers.manager_rule, specs.Legal.Legal}
use Rattle.device_commands.specs.device_rules.specs.Views.{view_after, view_of}
use Rattle.journal_core.specs.{Entries.effects, declared.entries.Entry.Entry}
use Rattle.control_core.{specs.Doing.IsOfHost, specs.Managing.changed_host, specs.Recording.events_by, proofs.Decisions.records_known, proofs.HostOutcomes.none_ended}
use Rattle.manager_commands.specs.{ManagerMessages.DraftsFor, device_state.specs.StateAfter.IsStateAfter, device_state.specs.Updates.IsOfLog, device_state.specs.declared.state.State.State}

pub remove_host : (c : Configuration) (before : List Entry) (h flags r bytes : ℕ) (tag : Tag) (list : List Extent) → manager_rule c (effects before) (λ k. view_of c k before) (FmRequest.Remove h flags r bytes tag list) ≡ None → h < c.hosts
remove_host c before h flags r bytes tag list row = (removal_row c (λ k. view_of c k before) h flags r tag list row).host

pub remove_of : (c : Configuration) → IsSound c → (before : List Entry) → Legal c before → (h flags r bytes : ℕ) (tag : Tag) (list : List Extent) → manager_rule c (effects before) (λ k. view_of c k before) (FmRequest.Remove h flags r bytes tag list) ≡ None →
    IsOfHost c before h (manager_outcome c (effects before) (λ k. view_of c k before) (FmRequest.Remove h flags r bytes tag list))
remove_of c sound before legal h flags r bytes tag list row = record {
  host = remove_host c before h flags r bytes tag list row;
  ended_are = λ entries table. (table-removal c sound before legal entries table h flags r bytes tag list row).ended_are;
}

pub remove_known : (c : Configuration) (before : List Entry) (s : State) → IsStateAfter c before s → (h flags r bytes : ℕ) (tag : Tag) (list : List Extent) → manager_rule c (effects before) (λ k. view_of c k before) (FmRequest.Remove h flags r bytes tag list) ≡ None →
    (draft : Draft) → Drafts c h (view_of c h before) (manager_outcome c (effects before) (λ k. view_of c k before) (FmRequest.Remove h flags r bytes tag list)) draft → All (λ (n : LogRecords). IsOfLog (length s.hosts.items) n.log) draft.log_records
remove_known c before s kept h flags r bytes tag list row draft is =
    records_known (length s.hosts.items) (events_by (view_after c h (view_of c h before) (manager_outcome c (effects before) (λ k. view_of c k before) (FmRequest.Remove h flags r bytes tag list)).changes)) draft.log_records
    (manager_outcome c (effects before) (λ k. view_of c k before) (FmRequest.Remove h flags r bytes tag list)).log_records is.log_records
    (subst (λ n. h < n) (sym kept.host_count) (remove_host c before h flags r bytes tag list row), tt)

-- ---- an offer

pub add_known : (c : Configuration) (before : List Entry) (s : State) → IsStateAfter c before s → (h policy r bytes : ℕ) (tag : Tag) (list : List Extent) → manager_rule c (effects before) (λ k. view_of c k before) (FmRequest.Add h policy r bytes tag list) ≡ None →
    (draft : Draft) → Drafts c h (view_of c h before) (manager_outcome c (effects before) (λ k. view_of c k before) (FmRequest.Add h policy r bytes tag list)) draft → All (λ (n : LogRecords). IsOfLog (length s.hosts.items) n.log) draft.log_records
add_known c before s kept h policy r bytes tag list row draft is =
    records_known (length s.hosts.items) (events_by (view_after c h (view_of c h before) (manager_outcome c (effects before) (λ k. view_of c k before) (FmRequest.Add h policy r bytes tag list)).changes)) draft.log_records
    (manager_outcome c (effects before) (λ k. view_of c k before) (FmRequest.Add h policy r bytes tag list)).log_records is.log_records
    (subst (λ n. h < n) (sym kept.host_count) (row_of c before h policy r bytes tag list row).host, tt)

-- no tag may end by it
pub add_of : (c : Configuration) (before : List Entry) (h policy r bytes : ℕ) (tag : Tag) (list : List Extent) → manager_rule c (effects before) (λ k. view_of c k before) (FmRequest.Add h policy r bytes tag list) ≡ None →
    IsOfHost c before h (manager_outcome c (effects before) (λ k. view_of c k before) (FmRequest.Add h policy r bytes tag list))
add_of c before h policy r bytes tag list row = record {
  host = (row_of c before h policy r bytes tag list row).host;
  ended_are = λ entries table. none_ended c (effects before) h (manager_outcome c (effects before) (λ k. view_of c k before) (FmRequest.Add h policy r bytes tag list)) refl entries;
}

-- ---- both

-- The request breaks no rule and is drafted so: it changes the lists of this host alone.
pub record OfHost (c : Configuration) (before : List Entry) (s : State) (q : FmRequest) (d : Draft) (h : ℕ) : Type 0 where
  pub is : IsOfHost c before h (manager_outcome c (effects before) (λ k. view_of c k before) q)
  pub drafts : Drafts c h (view_of c h before) (manager_outcome c (effects before) (λ k. view_of c k before) q) d
  pub known : All (λ (n : LogRecords). IsOfLog (length s.hosts.items) n.log) d.log_records
  pub short : length (manager_outcome c (effects before) (λ k. view_of c k before) q).payload ≤ 2048

pub of_host : (c : Configuration) → IsSound c → (before : List Entry) → Legal c before → (s : State) → IsStateAfter c before s → (q : FmRequest) (d : Draft) → manager_rule c (effects before) (λ k. view_of c k before) q ≡ None →
    DraftsFor c before q (manager_outcome c (effects before) (λ k. view_of c k before) q) d → IfSome (changed_host q) (OfHost c before s q d)
of_host c sound before legal s kept (FmRequest.Add h policy r bytes tag list) d row is = record {
  is = add_of c before h policy r bytes tag list row;
  drafts = is;
  known = add_known c before s kept h policy r bytes tag list row d is;
  short = omega arith;
}
of_host c sound before legal s kept (FmRequest.Remove h flags r bytes tag list) d row is = record {
  is = remove_of c sound before legal h flags r bytes tag list row;
  drafts = is;
  known = remove_known c before s kept h flags r bytes tag list row d is;
  short = omega arith;
}
of_host c sound before legal s kept q d row is = tt
