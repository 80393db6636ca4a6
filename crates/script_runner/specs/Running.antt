-- The journal that a run of a script makes.
use Rattle.std.specs.Prelude.{◌<◌, List, AllPairs}
use Rattle.journal_core.specs.{declared.entries.Entry.Entry, Merging.Numbered}
use Rattle.region_config.specs.Configurations.{Configuration}
use Rattle.script_gen.specs.script_codec.specs.{declared.scripts.Script.Script, Covering.Covers}
use Rattle.device_plain.specs.{isolation_laws.specs.Solo.Isolated, device_rules.specs.Legal.Exclusive, device_rules.specs.Legal.Legal}
use Rattle.script_runner.specs.declared.words.Mode.{Mode}

-- What every device keeps of its journal: it is legal, exclusive, numbered and isolated.
pub record IsLawful (c : Configuration) (journal : List Entry) : Type 0 where
  pub legal : Legal c journal
  pub exclusive : Exclusive c journal
  pub numbered : Numbered journal
  pub isolated : Isolated c journal

-- what holds in serial mode alone
abbrev pub InSerial : Mode → Type 0 → Type 0
InSerial Mode.Serial P = P
InSerial Mode.Threads P = Unit {0}

-- The journal is legal, exclusive, numbered and isolated, and has each line of the script that is no mark once, those of
-- each pass in order; in serial mode all its lines rise.
pub record IsScriptRun (mode : Mode) (s : Script) (journal : List Entry) : Type 0 where
  pub legal : Legal s.config journal
  pub exclusive : Exclusive s.config journal
  pub numbered : Numbered journal
  pub isolated : Isolated s.config journal
  pub covers : Covers journal s
  pub rising : InSerial mode (AllPairs (λ (e f : Entry). e.line < f.line) journal)
