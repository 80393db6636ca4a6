-- What every legal journal keeps of the event logs.
use Rattle.std.specs.{Prelude.◌≡◌, Prelude.Bool, Prelude.false, Prelude.true, Prelude.List, List.list_all}
use Rattle.cci_codec.specs.dcd_base.specs.declared.{ids.HostId.HostId, steps.LogId.LogId}
use Rattle.event_log.specs.Logs.{IsHistory}
use Rattle.journal_core.specs.{Entries.effects, declared.entries.Entry.Entry, declared.outcome.Effect.Effect}
use Rattle.device_rules.specs.Logs.{log_of}

-- no record found a host's log full
abbrev pub spares_hosts : Effect → Bool
spares_hosts (Effect.Missed (LogId.Host h)) = false
spares_hosts e = true

-- Each log is one that its history tells: no more is cleared than was logged, and handles go 1, 2, up to 65535, and
-- then 1 again. No record ever found a host's log full, and so none was missed there.
pub record LogsKept (journal : List Entry) : Type 0 where
  pub history : (l : LogId) → IsHistory (log_of l (effects journal))
  pub spared : list_all spares_hosts (effects journal) ≡ true
  pub none_missed : (h : HostId) → (log_of (LogId.Host h) (effects journal)).missed ≡ 0
