-- The logs, as the effects so far leave them.
use Rattle.std.specs.Prelude.{Bool, true, false, ◌==◌, List, [], ◌∷◌, ◌++◌, fold, if◌then◌else◌}
use Rattle.cci_codec.specs.dcd_base.specs.declared.steps.LogId.{LogId}
use Rattle.event_log.specs.Logs.{Log, cleared_of, empty_log, missed_by, reset}
use Rattle.journal_core.specs.declared.outcome.Effect.{Effect}

abbrev pub same_log : LogId → LogId → Bool
same_log (LogId.Host h) (LogId.Host k) = h == k
same_log LogId.Manager LogId.Manager = true
same_log (LogId.Host h) LogId.Manager = false
same_log LogId.Manager (LogId.Host h) = false

-- a record joins the log to which it goes
abbrev pub log_after : LogId → Log → Effect → Log
log_after l log (Effect.Logged k event) = if same_log k l then record log { ever = log.ever ++ event ∷ [] } else log
log_after l log (Effect.Cleared k n) = if same_log k l then cleared_of n log else log
log_after l log (Effect.Missed k) = if same_log k l then missed_by log else log
log_after l log (Effect.Reset k) = if same_log k l then reset log else log
log_after l log e = log

abbrev pub log_of : LogId → List Effect → Log
log_of l past = fold (log_after l) empty_log past
