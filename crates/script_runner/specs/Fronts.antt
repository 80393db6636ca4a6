-- A serial run in its midst.
use Rattle.std.specs.Prelude.{◌≡◌, ℕ, ◌<◌, ◌≤◌, List, [], ◌∷◌, ◌++◌, length, take, count_by, AllPairs, Result, Ok}
use Rattle.std.specs.List.{AllByRecursion, All}
use Rattle.dcd_base.specs.declared.steps.Actor.{Actor}
use Rattle.region_config.specs.Configurations.{Configuration}
use Rattle.journal_core.specs.declared.{acts.Act.Act, entries.Entry.Entry}
use Rattle.script_gen.specs.script_codec.specs.{Covering.Covers, Covering.IsOfLine, Covering.is_line, Covering.pass_of, Scripts.ReadsScript, declared.faults.ScriptFault.ScriptFault}
use Rattle.script_gen.specs.script_codec.specs.declared.{script_line.Line.Line, scripts.Script.Script}

-- One entry was added: that of the line with this number, actor, lane and act.
pub record AddsEntry (hosts lanes number : ℕ) (its_actor : Actor) (lane : ℕ) (its_act : Act) (old new : List Entry) : Type 0 where
  pub entry : Entry
  pub line : entry.line ≡ number
  pub pass : entry.pass ≡ pass_of hosts lanes its_actor lane
  pub actor : entry.actor ≡ its_actor
  pub act : entry.act ≡ its_act
  pub added : new ≡ old ++ entry ∷ []

-- The line was done: a mark changes nothing.
abbrev pub RunsLine : ℕ → ℕ → ℕ → Line → List Entry → List Entry → Type 0
RunsLine hosts lanes number (Line.Do actor lane act) old new = AddsEntry hosts lanes number actor lane act old new
RunsLine hosts lanes number Line.Mark old new = new ≡ old

-- The journal has each of the first lines once, in their order.
pub record CoversFront (s : Script) (count : ℕ) (journal : List Entry) : Type 0 where
  pub counted : length journal ≡ count_by is_line (take count s.lines)
  pub lines : AllByRecursion (IsOfLine s) journal
  pub below : All (λ (e : Entry). e.line ≤ count) journal
  pub rising : AllPairs (λ (e f : Entry). e.line < f.line) journal

-- ---- a run of lines that are read one by one
-- The same of lines, whatever script they are the first of.
pub record RanLines (hosts lanes : ℕ) (done : List Line) (journal : List Entry) : Type 0 where
  pub front : (s : Script) (rest : List Line) → s.lines ≡ done ++ rest → s.config.hosts ≡ hosts → s.lanes ≡ lanes → CoversFront s (length done) journal

-- So many lines were done behind others, and these: what was so of the others is so of both.
pub record RunsLines (hosts lanes behind : ℕ) (lines : List Line) (old new : List Entry) : Type 0 where
  pub goes_on : (done : List Line) → behind ≡ length done → RanLines hosts lanes done old → RanLines hosts lanes (done ++ lines) new

-- All lines that were to come were done.
pub record RanRest (hosts lanes : ℕ) (rest : Result (List Line) ScriptFault) (journal : List Entry) : Type 0 where
  pub lines : List Line
  pub whole : rest ≡ Ok lines
  pub ran : RanLines hosts lanes lines journal

-- All lines of the script were done, in their order.
pub record RanAll (script : Script) (config : Configuration) (journal : List Entry) : Type 0 where
  pub config_is : config ≡ script.config
  pub covers : Covers journal script
  pub rising : AllPairs (λ (e f : Entry). e.line < f.line) journal

-- All lines of the script that the input is were done.
pub record RanScript (input : List ℕ) (config : Configuration) (journal : List Entry) : Type 0 where
  pub script : Script
  pub reads : ReadsScript input script
  pub config_is : config ≡ script.config
  pub covers : Covers journal script
  pub rising : AllPairs (λ (e f : Entry). e.line < f.line) journal
