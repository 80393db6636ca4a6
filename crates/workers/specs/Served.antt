-- A journal in which each pass did its lines of a script, and nobody did anything else.
use Rattle.std.specs.Prelude.{◌≡◌, ℕ, ◌+◌, ◌*◌, ◌<◌, List, map, IsTrue, All}
use Rattle.std.specs.List.{list_all}
use Rattle.dcd_base.specs.declared.steps.Actor.{Actor}
use Rattle.journal_core.specs.{declared.acts.Act.Act, declared.entries.Entry.Entry, Merging.calls_of}
use Rattle.script_codec.specs.{declared.script_line.Line.Line, declared.scripts.Script.Script, Covering.pass_of, Scripts.is_sound_line}
use Rattle.workers.specs.Phases.{task_of, tasks}

-- one for each lane of each host, one for the manager, one for the sanitizer
abbrev pub passes_of : Script → ℕ
passes_of s = s.config.hosts * s.lanes + 2

pub record AllServed (s : Script) (journal : List Entry) : Type 0 where
  -- the calls of each pass are its lines, in order
  pub each : (k : ℕ) → k < passes_of s → map task_of (calls_of k journal) ≡ tasks s.config.hosts s.lanes k 1 s.lines
  pub inside : All (λ (e : Entry). e.pass < passes_of s) journal
  -- each entry has the actor of its pass's lines
  pub actors : All
      (λ (e : Entry).
      (actor : Actor) (lane : ℕ) (act : Act) → IsTrue (is_sound_line s.config.hosts s.lanes (Line.Do actor lane act)) → pass_of s.config.hosts s.lanes actor lane ≡ e.pass → e.actor ≡ actor)
      journal
  -- the script's lines fit its hosts and lanes
  pub sound : IsTrue (list_all (is_sound_line s.config.hosts s.lanes) s.lines)
