-- The lines of a phase parted by pass: the first line of each pass, and for each line the next one of its pass.
-- A place is the index of a line, from 0; the number of lines stands for no line.
use Rattle.std.specs.Prelude.{◌≡◌, ℕ, suc, ◌+◌, ◌*◌, ◌≤◌, ◌<◌, ◌^◌, List, length, get_or, drop, slice_index, IsTrue}
use Rattle.std.specs.List.{list_all}
use Rattle.script_codec.specs.{declared.script_line.Line.Line, Scripts.is_sound_line}
use Rattle.workers.specs.{Handling.HandlerReads, Phases.Phase, Phases.is_line_of, Phases.phase, Phases.tasks, Serving.EachReady, declared.worklists.PhaseLines.PhaseLines}
use Rattle.workers.specs.declared.worklists.Worklist.{Worklist}

module _ (hosts lanes : ℕ) (lines : List Line) where
  -- the place is a line of the pass, or none
  pub record IsPlaceOf (pass place : ℕ) : Type 0 where
    pub within : place ≤ length lines
    pub own : (d : Line) → place < length lines → IsTrue (is_line_of hosts lanes pass (get_or lines place d))

  -- the place is the first from `from` on that is the pass's
  pub record IsNextOf (pass from place : ℕ) : Type 0 where
    pub there : IsPlaceOf pass place
    pub behind : from ≤ place
    pub skips : (first : ℕ) → tasks hosts lanes pass (first + from) (drop from lines) ≡ tasks hosts lanes pass (first + place) (drop place lines)

  -- the heads of the passes: the first place of each from `from` on
  abbrev pub AreHeads : ℕ → List ℕ → Type 0
  AreHeads from heads = (pass : ℕ) → pass < length heads → IsNextOf pass from (slice_index heads pass)

  -- each line from `from` on is linked with the next of its pass
  abbrev pub AreLinked : ℕ → List ℕ → Type 0
  AreLinked from next =
      (i pass : ℕ) (d : Line) → from ≤ i → i < length lines → IsTrue (is_line_of hosts lanes pass (get_or lines i d)) → IsNextOf pass (suc i) (slice_index next i)

  -- the lines from `from` on are parted
  pub record ArePartedFrom (from : ℕ) (heads next : List ℕ) : Type 0 where
    pub head : AreHeads from heads
    pub link : AreLinked from next
    pub passes : length heads ≡ hosts * lanes + 2
    pub links : length next ≡ length lines

-- the phase of these lines
abbrev pub phase_of : PhaseLines → Phase
phase_of p = phase p.hosts p.lanes p.first p.lines.now

module _ {H P : Type 0} (reads : HandlerReads H P) (handler : H) where
  -- the lines are the handler's
  pub record IsPhase (p : PhaseLines) : Type 0 where
    pub hosts : reads.hosts handler ≡ p.hosts
    pub few : p.hosts ≤ 16
    pub narrow : p.lanes < 256
    pub sound : IsTrue (list_all (is_sound_line p.hosts p.lanes) p.lines.now)
    pub in_range : p.first + length p.lines.now ≤ 2 ^ 32

  -- so are those of a list of work, and they are parted
  pub record IsWork (work : Worklist) : Type 0 where
    pub phase : IsPhase work.phase
    pub parted : ArePartedFrom work.phase.hosts work.phase.lanes work.phase.lines.now 0 work.heads.items work.next.items

  -- passes that may do their lines of it, the first of which has this number
  pub record IsRow (work : Worklist) (k : ℕ) (passes : List P) : Type 0 where
    pub ready : EachReady reads handler (phase_of work.phase) k passes
    pub within : k + length passes ≤ length work.heads.items
