-- What a run of a script in threads leaves.
use Rattle.std.specs.Prelude.{◌≡◌, ℕ, ◌+◌, ◌*◌, List, length}
use Rattle.device_plain.specs.{device_rules.specs.Legal.Exclusive, device_rules.specs.Legal.Legal, isolation_laws.specs.Solo.Isolated}
use Rattle.journal_core.specs.{declared.entries.Entry.Entry, Merging.Numbered}
use Rattle.region_config.specs.Configurations.{Configuration}
use Rattle.script_gen.specs.script_codec.specs.{declared.scripts.Script.Script, Covering.Covers}
use Rattle.shared_device.specs.{ruled_cells.specs.Calls.seats_of, Closing.IsClosed, declared.pass.Pass.Pass, declared.shared.Shared.Shared}
use Rattle.script_runner.specs.ScriptPasses.{HaveRun}

-- the entries are those of a shared device that was taken apart once all its passes came back
abbrev pub IsTakenApart : Configuration → List Entry → List (List Entry) → Type 0
IsTakenApart c control shards = (seats : ℕ) × (passes : List Pass) × IsClosed c seats passes control shards

-- The journal is one of the script: it is legal and numbered, has each line that is no mark once, no granule of a region that
-- is not shareable ever has two hosts, and each reply to a host is what a device with that host alone replies.
pub record IsThreadRun (s : Script) (journal : List Entry) : Type 0 where
  pub legal : Legal s.config journal
  pub exclusive : Exclusive s.config journal
  pub numbered : Numbered journal
  pub isolated : Isolated s.config journal
  pub covers : Covers journal s

-- The passes of a device of the script's configuration have done its lines, and all have come back.
pub record HasDone (s : Shared) (script : Script) (passes : List Pass) : Type 0 where
  pub config : s.config ≡ script.config
  pub count : length passes ≡ script.config.hosts * script.lanes + 2
  pub seats : seats_of s.cells ≡ length passes
  pub ran : HaveRun s script.lanes script.lines passes
