-- The passes of the tests.
use Rattle.std.specs.Prelude.{◌≡◌, ℕ, suc, ◌*◌, ◌/◌, ◌≤◌, ◌==◌, nat_lt, List, [], ◌∷◌, length, if◌then◌else◌}
use Rattle.dcd_base.specs.declared.steps.Actor.{Actor}
use Rattle.journal_core.specs.Merging.{Call}
use Rattle.script_runner.specs.workers.specs.Handling.{HandlerReads}

pub record DeskState : Type 0 where
  pub number : ℕ
  pub actor : Actor
  pub calls : List Call

abbrev pub desk_reads : {H : Type 0} → (H → ℕ) → HandlerReads H DeskState
desk_reads hosts = record {
  hosts = hosts;
  is_mine = λ handler desk. Unit {0};
  number = λ desk. desk.number;
  actor = λ desk. desk.actor;
  calls = λ desk. desk.calls;
}

-- the actor of the pass of a number
abbrev pub actor_at : ℕ → ℕ → ℕ → Actor
actor_at hosts lanes k = if nat_lt k (hosts * lanes) then Actor.Host (k / lanes) else if k == hosts * lanes then Actor.Manager else Actor.Sanitizer

-- the desk of this number, with at most so many calls
pub record IsDesk (hosts lanes most k : ℕ) (d : DeskState) : Type 0 where
  pub number : d.number ≡ k
  pub actor : d.actor ≡ actor_at hosts lanes k
  pub few : length d.calls ≤ most

-- the desks, the first of which has this number
abbrev pub AreDesks : ℕ → ℕ → ℕ → ℕ → List DeskState → Type 0
AreDesks hosts lanes most k [] = Unit {0}
AreDesks hosts lanes most k (d ∷ desks) = IsDesk hosts lanes most k d × AreDesks hosts lanes most (suc k) desks
