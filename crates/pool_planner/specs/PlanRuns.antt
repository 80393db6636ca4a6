-- The device behind the lines of a script, and behind a list.
use Rattle.std.specs.Prelude.{◌≡◌, ℕ, List, [], ◌∷◌, ◌++◌, length}
use Rattle.device_plain.specs.{Devices.Plain, device_rules.specs.Legal.Legal}
use Rattle.journal_core.specs.declared.entries.Entry.{Entry}
use Rattle.report.specs.script_codec.specs.{Covering.IsEntryOf, declared.script_line.Line.Line}
use Rattle.plan_rules.specs.{Holding.Step, Holding.stepped, PlanAlike.PlanAlike}

-- The line of this number was done: it has the next entry, or is a mark.
abbrev pub AddsScriptLine : ℕ → ℕ → ℕ → Line → List Entry → List Entry → Type 0
AddsScriptLine hosts lanes number (Line.Do actor lane act) old new = (e : Entry) × IsEntryOf hosts lanes number actor lane act e × (new ≡ old ++ e ∷ [])
AddsScriptLine hosts lanes number Line.Mark old new = new ≡ old

-- The step has the next entry, which is a legal one.
pub record IsBehind (old new : Plain) (s : Step) : Type 0 where
  pub entry : Entry
  pub actor : entry.actor ≡ s.0
  pub act : entry.act ≡ s.1
  pub config : new.config ≡ old.config
  pub journal : new.journal ≡ old.journal ++ entry ∷ []
  pub legal : Legal new.config new.journal

-- The steps of a list were done: it is as behind the definition's.
pub record IsBehindList (old new : Plain) (acts : List Step) : Type 0 where
  pub config : new.config ≡ old.config
  pub alike : PlanAlike new.journal (stepped old.config old.journal acts)
  pub count : length new.journal ≡ length (stepped old.config old.journal acts)
