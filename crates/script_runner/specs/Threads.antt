-- What a run in threads leaves.
use Rattle.std.specs.Prelude.{◌≡◌, ℕ, List, length}
use Rattle.journal_core.specs.{declared.entries.Entry.Entry, Merging.AllRise, Merging.merged}
use Rattle.region_config.specs.Configurations.{Configuration}
use Rattle.script_gen.specs.script_codec.specs.{declared.scripts.Script.Script, Scripts.ReadsScript}
use Rattle.script_runner.specs.ThreadRuns.{IsTakenApart, IsThreadRun}

-- All that is printed from: the entries of the control, and those of the shards, which make one journal.
pub record CanBeLent (config : Configuration) (entries : List Entry) (shards : List (List Entry)) : Type 0 where
  pub count : length shards ≡ 16
  pub rise : AllRise shards
  pub closed : IsTakenApart config entries shards

-- They are those of a run of the script.
pub record RanInThreads (script : Script) (config : Configuration) (entries : List Entry) (shards : List (List Entry)) : Type 0 where
  pub lent : CanBeLent config entries shards
  pub config_is : config ≡ script.config
  pub runs : IsThreadRun script (merged entries shards)

-- They are those of a run of the script that the input is.
pub record RanInput (input : List ℕ) (config : Configuration) (entries : List Entry) (shards : List (List Entry)) : Type 0 where
  pub script : Script
  pub reads : ReadsScript input script
  pub ran : RanInThreads script config entries shards
