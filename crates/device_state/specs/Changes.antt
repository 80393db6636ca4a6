-- What one effect makes of a log or a host's part, seen from the effect.
use Rattle.std.specs.Prelude.{◌≡◌, ◌<◌, length, Option, Some, None}
use Rattle.cci_codec.specs.dcd_base.specs.declared.{ids.HostId.HostId, steps.LogId.LogId}
use Rattle.event_log.specs.LogStates.{LogState, with_missed, without_oldest}
use Rattle.journal_core.specs.declared.outcome.Effect.{Effect}
use Rattle.device_state.specs.{Entered.log_by, Entered.put_in, StateAfter.part_of, declared.state.State.State}

-- the log that the effect changes
abbrev pub log_told : Effect → Option LogId
log_told (Effect.Logged l event) = Some l
log_told (Effect.Missed l) = Some l
log_told (Effect.Cleared l n) = Some l
log_told (Effect.Reset l) = Some l
log_told e = None

-- what the effect makes of that log
abbrev pub log_changed : LogState → Effect → LogState
log_changed log (Effect.Logged l event) = put_in log event
log_changed log (Effect.Missed l) = with_missed log
log_changed log (Effect.Cleared l n) = without_oldest n log
log_changed log (Effect.Reset l) = record log { missed = 0 }
log_changed log e = log

-- The logs are changed by the effect, and no host's lists are.
pub record AreLogged (e : Effect) (old new : State) : Type 0 where
  pub hosts : length new.hosts.items ≡ length old.hosts.items
  pub manager : new.manager ≡ log_by LogId.Manager old.manager e
  pub logs : (h : HostId) → h < length old.hosts.items → (part_of new h).log ≡ log_by (LogId.Host h) (part_of old h).log e
  pub lists : (h : HostId) → h < length old.hosts.items → (part_of new h).lists ≡ (part_of old h).lists
