-- Why a log is not cleared, and what clearing it changes, by what the log is.
use Rattle.std.specs.Prelude.{ℕ, Bool, true, false, ◌==◌, List, [], ◌∷◌, ◌++◌, Option, Some, None, if◌then◌else◌, length, option_map}
use Rattle.cci_codec.specs.dcd_base.specs.declared.steps.LogId.{LogId}
use Rattle.extent_list.specs.dcd_codes.specs.{declared.rules.Rule.Rule, Rules.◌breaks◌, Rules.ByRow, declared.refusals.Refusal.Refusal}
use Rattle.event_log.specs.{LogStates.LogState, LogStates.clear_fault, Logs.Log, Logs.IsLogOf}
use Rattle.journal_core.specs.declared.outcome.Effect.{Effect}
use Rattle.device_rules.specs.{EventCommands.cleared, EventCommands.rule_of, EventCommands.clear_outcome, EventCommands.clear_rule, Outcomes.Outcome}
use Rattle.std.specs.declared.result.Result.{Result}
use Rattle.device_commands.specs.{Drafts.IsOutcome, declared.draft.Draft.Draft}

-- a log is cleared whole only where it missed a record
abbrev pub whole_rule : LogState → Option Rule
whole_rule log = (log.missed == 0) breaks Rule.NotOverflowed

-- and else handle by handle
abbrev pub log_handles_rule : LogState → List ℕ → Option Rule
log_handles_rule log handles = option_map rule_of (clear_fault handles log.records)

abbrev pub clearing_rule : LogState → Bool → List ℕ → Option Rule
clearing_rule log all handles = if all then whole_rule log else log_handles_rule log handles

-- changes, and no more
abbrev pub changing : List Effect → Outcome
changing changes = record { payload = []; changes = changes; tags = []; log_records = [] }

abbrev pub whole_outcome : LogId → LogState → Outcome
whole_outcome l log = changing (cleared l (length log.records) ++ Effect.Reset l ∷ [])

abbrev pub listed_outcome : LogId → List ℕ → Outcome
listed_outcome l handles = changing (cleared l (length handles))

abbrev pub clearing_outcome : LogId → LogState → Bool → List ℕ → Outcome
clearing_outcome l log all handles = if all then whole_outcome l log else listed_outcome l handles

-- an empty log has no handle and missed nothing
abbrev pub empty_rule : Bool → List ℕ → Option Rule
empty_rule true handles = Some Rule.NotOverflowed
empty_rule false [] = None
empty_rule false (h ∷ handles) = Some (Rule.UnknownHandle h)

-- By its row, for each history that the log shows.
abbrev pub AnswersClear : LogId → ℕ → LogState → Bool → List ℕ → Result Draft Refusal → Type 0
AnswersClear l number log all handles result = (own : Log) → IsLogOf l own log →
    ByRow (clear_rule number own all handles) (IsOutcome (clear_outcome l number own all handles)) result
