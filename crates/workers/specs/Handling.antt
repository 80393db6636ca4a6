-- What a handler shows of its passes, and what a call adds.
use Rattle.std.specs.Prelude.{◌≡◌, ℕ, List, [], ◌∷◌, ◌++◌}
use Rattle.dcd_base.specs.declared.steps.{Actor.Actor, Stamp.Stamp}
use Rattle.journal_core.specs.{declared.acts.Act.Act, declared.acts.Reply.Reply, Merging.Call}

pub record HandlerReads (H P : Type 0) : Type 1 where
  -- how many hosts the device has
  pub hosts : H → ℕ
  -- the pass is one of the device's, between two calls
  pub is_mine : H → P → Type 0
  -- the number of a pass, its actor, and its calls so far
  pub number : P → ℕ
  pub actor : P → Actor
  pub calls : P → List Call

-- one call was added: that of the line and the act, with the reply
pub record AddsCall (line : ℕ) (act : Act) (reply : Reply) (old new : List Call) : Type 0 where
  pub stamp : Stamp
  pub added : new ≡ old ++ record { line = line; act = act; reply = reply; stamp = stamp } ∷ []
