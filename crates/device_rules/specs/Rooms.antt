-- That the records of a step find room in their logs, each under the next handle.
use Rattle.std.specs.Prelude.{◌≡◌, ◌<◌, true, List, [], ◌∷◌, length}
use Rattle.cci_codec.specs.dcd_base.specs.declared.steps.LogId.{LogId}
use Rattle.event_log.specs.Logs.{IsHistory, Log, next_handle, places_in, records_in}
use Rattle.event_records.specs.declared.events.Event.{Event}
use Rattle.journal_core.specs.declared.outcome.Effect.{Effect}
use Rattle.device_rules.specs.Logs.{log_after, log_of, same_log}

-- The log has room for the record, which has the next handle.
pub record IsNextRecord (l : LogId) (log : Log) (event : Event) : Type 0 where
  pub told : IsHistory log
  pub room : length (records_in log) < places_in l
  pub handle : event.handle ≡ next_handle log

abbrev pub HasRoom : LogId → Log → Effect → Type 0
HasRoom l log (Effect.Logged k event) = same_log k l ≡ true → IsNextRecord l log event
HasRoom l log e = Unit {0}

-- So it is of each record when its turn comes.
abbrev pub HaveRoom : LogId → Log → List Effect → Type 0
HaveRoom l log [] = Unit {0}
HaveRoom l log (e ∷ new) = HasRoom l log e × HaveRoom l (log_after l log e) new

-- And in each log.
abbrev pub RoomFor : List Effect → List Effect → Type 0
RoomFor past new = (l : LogId) → HaveRoom l (log_of l past) new
