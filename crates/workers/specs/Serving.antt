-- What the passes make of the lines of a phase.
use Rattle.std.specs.Prelude.{◌≡◌, ℕ, suc, ◌+◌, ◌≤◌, ◌^◌, List, [], ◌∷◌, length, IsTrue}
use Rattle.dcd_base.specs.declared.steps.Actor.{Actor}
use Rattle.journal_core.specs.declared.acts.Act.{Act}
use Rattle.script_codec.specs.{declared.script_line.Line.Line, Covering.pass_of, Scripts.is_sound_line}
use Rattle.workers.specs.{Handling.HandlerReads, Phases.Phase, Phases.Task, Phases.tasks_in, Phases.GrownTo, Phases.Grown}

-- it holds of each pass before and after, the first of which has this number
abbrev pub EachPair : {P : Type 0} → (ℕ → P → P → Type 0) → ℕ → List P → List P → Type 0
EachPair R k [] [] = Unit {0}
EachPair R k [] (q ∷ new) = ⊥
EachPair R k (p ∷ old) [] = ⊥
EachPair R k (p ∷ old) (q ∷ new) = R k p q × EachPair R (suc k) old new

module _ {H P : Type 0} (reads : HandlerReads H P) (handler : H) where
  -- the pass of this number may do its lines of the phase
  pub record IsReady (f : Phase) (k : ℕ) (p : P) : Type 0 where
    pub mine : reads.is_mine handler p
    pub number : reads.number p ≡ k
    pub actor : (actor : Actor) (lane : ℕ) (act : Act) → IsTrue (is_sound_line f.hosts f.lanes (Line.Do actor lane act))
        → pass_of f.hosts f.lanes actor lane ≡ k → reads.actor p ≡ actor
    pub room : length (reads.calls p) + length (tasks_in f k) ≤ 2 ^ 32

  -- each of the passes may, the first of which has this number
  abbrev pub EachReady : Phase → ℕ → List P → Type 0
  EachReady f k [] = Unit {0}
  EachReady f k (p ∷ passes) = IsReady f k p × EachReady f (suc k) passes

  -- it is the same pass, of the same handler
  pub record KeepsPass (p q : P) : Type 0 where
    pub mine : reads.is_mine handler q
    pub number : reads.number q ≡ reads.number p
    pub actor : reads.actor q ≡ reads.actor p

  -- the pass has done its lines of the phase, each once and in order, and nothing else
  pub record HasServed (f : Phase) (k : ℕ) (p q : P) : Type 0 where
    pub same : KeepsPass p q
    pub grown : Grown (tasks_in f k) (reads.calls p) (reads.calls q)

  -- or some first ones of them
  pub record HasServedSome (f : Phase) (k : ℕ) (p q : P) : Type 0 where
    pub same : KeepsPass p q
    pub left : List Task
    pub grown : GrownTo (tasks_in f k) left (reads.calls p) (reads.calls q)

  -- so has each of the passes, the first of which has this number
  abbrev pub EachServed : Phase → ℕ → List P → List P → Type 0
  EachServed f k old new = EachPair (HasServed f) k old new

  abbrev pub EachServedSome : Phase → ℕ → List P → List P → Type 0
  EachServedSome f k old new = EachPair (HasServedSome f) k old new
