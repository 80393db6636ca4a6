-- What is answered of the records of a log, 0100h.
use Rattle.std.specs.{Prelude.ℕ, declared.result.Result.Result}
use Rattle.cci_codec.specs.dcd_base.specs.declared.steps.LogId.{LogId}
use Rattle.extent_list.specs.dcd_codes.specs.{Rules.ByRow, declared.refusals.Refusal.Refusal}
use Rattle.event_log.specs.{LogStates.LogState, Logs.Log, Logs.IsLogOf}
use Rattle.device_rules.specs.{EventCommands.events_reply, EventCommands.log_named, EventCommands.no_such_log, Outcomes.only}
use Rattle.device_commands.specs.{Drafts.IsOutcome, declared.draft.Draft.Draft}

-- By its row, for each history that the log shows.
abbrev pub AnswersEvents : ℕ → LogState → Result Draft Refusal → Type 0
AnswersEvents number log result = (l : LogId) (own : Log) → IsLogOf l own log → ByRow (no_such_log number) (IsOutcome (only (events_reply (log_named number own)))) result
