-- A driver over a device, between any two steps, and how much it has to do.
use Rattle.std.specs.Prelude.{◌≡◌, ℕ, ◌+◌, ◌*◌, ◌<◌, Bool, true, List, [], ◌∷◌, ◌++◌, length, IsTrue, IsFalse}
use Rattle.dcd_base.specs.{Words.is_empty, declared.ids.HostId.HostId, declared.steps.LogId.LogId}
use Rattle.event_log.specs.Logs.{records_in}
use Rattle.event_records.specs.declared.events.Event.{Event}
use Rattle.region_config.specs.Configurations.{Configuration}
use Rattle.journal_core.specs.{declared.entries.Entry.Entry, Entries.Each, Entries.effects}
use Rattle.report.specs.script_codec.specs.declared.script_line.Line.{Line}
use Rattle.device_plain.specs.{device_rules.specs.Legal.Legal, device_rules.specs.Logs.log_of, Devices.Plain}
use Rattle.host_driver.specs.{declared.due.Due.Due, Driving.Driven, Spelling.AreSpelled, Spelling.AreSpelledIn, Standing.Standing}
use Rattle.host_driver.specs.Journals.{IsDriven, IsTurn, IsUnlined, driver_of, ends_with, entries_of_others, is_at_rest, line_of_others, lines_of_others}

-- The journal is legal, and the records that its last entry put into logs are spelled as they are read.
pub record EndsSpelled (device : Plain) : Type 0 where
  pub legal : Legal device.config device.journal
  pub spelled : (before : List Entry) (e : Entry) → device.journal ≡ before ++ e ∷ [] → AreSpelledIn e.effects

-- The device and the driver have gone on in turns so far. No request is out.
pub record GoInTurns (h : HostId) (most : ℕ) (device : Plain) (driver : Standing) : Type 0 where
  pub known : h < device.config.hosts
  pub legal : Legal device.config device.journal
  pub driven : IsDriven h most device.journal
  pub turns : Each (IsTurn h most) device.journal
  pub own : Each (IsUnlined device.config.hosts h) device.journal
  pub spelled : AreSpelled device.journal
  pub standing : driver ≡ record { host = h; most = most; out = Bool.false; driven = driver_of h most device.journal }

-- The driver has gone on, and nobody else.
pub record HasGone (h : HostId) (most : ℕ) (old new : Plain) (driver : Standing) : Type 0 where
  pub turns : GoInTurns h most new driver
  pub config : new.config ≡ old.config
  pub others : entries_of_others h new.journal ≡ entries_of_others h old.journal
  pub some : IsFalse (is_empty new.journal)
  pub last : ends_with h new.journal ≡ true

-- One of the others has gone on, by one entry of its line.
pub record HasLine (h : HostId) (most : ℕ) (line : ℕ × Line) (old new : Plain) (driver : Standing) : Type 0 where
  pub turns : GoInTurns h most new driver
  pub config : new.config ≡ old.config
  pub others : entries_of_others h new.journal ≡ entries_of_others h old.journal ++ line_of_others old.config.hosts h line

-- The lines so far have run on a device of this configuration, and the driver is at rest.
pub record HasLines (c : Configuration) (h : HostId) (most : ℕ) (done : List Line) (device : Plain) (driver : Standing) : Type 0 where
  pub turns : GoInTurns h most device driver
  pub config : device.config ≡ c
  pub rest : IsTrue (is_at_rest h most device.journal)
  pub others : entries_of_others h device.journal ≡ lines_of_others c.hosts h done

-- ---- how much there is to do until the log is empty

-- what is left of a page
abbrev pub due_weight : Due → List Event → ℕ
due_weight Due.Page left = 17
due_weight Due.Clear left = 0
due_weight Due.Response left = 1 + length left
due_weight Due.Release left = 1 + length left

-- Each record in the log takes a page, a clearing and one answer at most.
abbrev pub to_do : List Event → Driven → ℕ
to_do records d = 32 * length records + due_weight d.due d.records

abbrev pub work_of : HostId → ℕ → List Entry → ℕ
work_of h most journal = to_do (records_in (log_of (LogId.Host h) (effects journal))) (driver_of h most journal)

-- It has gone on by one request, and there is less to do, unless it found no record.
pub record HasAsked (h : HostId) (most : ℕ) (old new : Plain) (driver : Standing) : Type 0 where
  pub gone : HasGone h most old new driver
  pub less : IsFalse driver.driven.idle → work_of h most new.journal < work_of h most old.journal
