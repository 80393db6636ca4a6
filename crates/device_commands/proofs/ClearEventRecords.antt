-- What clears a log clears its history.
use Rattle.std.proofs.Common.{◌≡◌, ℕ, Bool, true, false, List, sym, subst}
use Rattle.std.specs.declared.result.Result.{Result}
use Rattle.cci_codec.specs.dcd_base.specs.declared.steps.LogId.{LogId}
use Rattle.extent_list.specs.dcd_codes.specs.{declared.refusals.Refusal.Refusal, Rules.ByRow}
use Rattle.event_log.specs.{Logs.Log, Logs.places_in, Logs.state_of, Logs.IsLogOf, LogStates.LogState}
use Rattle.device_rules.specs.EventCommands.{clear_outcome, clear_rule}
use Rattle.device_commands.specs.{ClearEventRecords.clearing_outcome, ClearEventRecords.clearing_rule, Drafts.IsOutcome, declared.draft.Draft.Draft}

-- what clears the log of dynamic capacity, whose number is 4, clears its history
pub clears : (l : LogId) (number : ℕ) (own : Log) (log : LogState) (all : Bool) (handles : List ℕ) (r : Result Draft Refusal) → number ≡ 4 → IsLogOf l own log
    → ByRow (clearing_rule log all handles) (IsOutcome (clearing_outcome l log all handles)) r
    → ByRow (clear_rule number own all handles) (IsOutcome (clear_outcome l number own all handles)) r
clears l number own log all handles r four of holds =
    subst (λ n. ByRow (clear_rule n own all handles) (IsOutcome (clear_outcome l n own all handles)) r) (sym four)
    (by_history all (subst (λ (s : LogState). ByRow (clearing_rule s all handles) (IsOutcome (clearing_outcome l s all handles)) r) of.is holds))
  where
    by_history : (all : Bool) → ByRow (clearing_rule (state_of (places_in l) own) all handles) (IsOutcome (clearing_outcome l (state_of (places_in l) own) all handles)) r
        → ByRow (clear_rule 4 own all handles) (IsOutcome (clear_outcome l 4 own all handles)) r
    by_history true holds = holds
    by_history false holds = holds
