-- The parts of opening a device.
use Rattle.std.specs.Prelude.{◌≡◌, ◌≢◌, ℕ, List, Result, Ok, Err}
use Rattle.region_config.specs.Configurations.{Configuration}
use Rattle.script_codec.specs.{LineByLine.Begins, LineByLine.FailsInHead, Unread.Unread, declared.faults.ScriptFault.ScriptFault, declared.heads.Head.Head}
use Rattle.dcd_c.specs.declared.faults.Fault.{Fault}

-- The bytes begin with a head of this configuration.
pub record HasConfig (bytes : List ℕ) (config : Configuration) : Type 0 where
  pub head : Head
  pub unread : Unread
  pub begins : Begins bytes head unread
  pub config_is : config ≡ head.config

-- What reading a head answers: its configuration, or its first fault.
abbrev pub IsHeadRead : List ℕ → Result Configuration Fault → Type 0
IsHeadRead bytes (Ok config) = HasConfig bytes config
IsHeadRead bytes (Err Fault.NoMemory) = Unit {0}
IsHeadRead bytes (Err (Fault.Head fault)) = (fault ≢ ScriptFault.NoMemory) × FailsInHead bytes fault
IsHeadRead bytes (Err fault) = ⊥
