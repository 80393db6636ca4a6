-- The passes of a device before and after the lines of a script.
use Rattle.std.specs.Prelude.{◌≡◌, ℕ, List, map}
use mathlib.Core.Option.{some}
use lib.ListN.{get_elem?}
use Rattle.script_gen.specs.script_codec.specs.declared.script_line.Line.{Line}
use Rattle.shared_device.specs.{Commanding.actors_of, Passing.IsNewPass, Passing.IsOneOf, Passing.pass_actor, Passing.pass_calls, Passing.pass_number, declared.pass.Pass.Pass}
use Rattle.shared_device.specs.declared.shared.Shared.{Shared}
use Rattle.workers.specs.Phases.{task_of, tasks}

-- the passes are as they were made, host by host and lane by lane, then the manager, then the sanitizer
abbrev pub AreNewPasses : Shared → ℕ → List Pass → Type 0
AreNewPasses s lanes passes = (k : ℕ) (p : Pass) → get_elem? passes k ≡ some p → IsNewPass s (actors_of s.config lanes) k p

-- the pass of this number has done its lines, each once and in order, and nothing else
pub record HasRun (s : Shared) (lanes : ℕ) (lines : List Line) (k : ℕ) (p : Pass) : Type 0 where
  pub of : IsOneOf s p
  pub number : pass_number p ≡ k
  pub actor : get_elem? (actors_of s.config lanes) k ≡ some (pass_actor p)
  pub calls : map task_of (pass_calls p) ≡ tasks s.config.hosts lanes k 1 lines

-- so has each of the passes
abbrev pub HaveRun : Shared → ℕ → List Line → List Pass → Type 0
HaveRun s lanes lines passes = (k : ℕ) (p : Pass) → get_elem? passes k ≡ some p → HasRun s lanes lines k p
