-- The actors of new passes.
use Rattle.std.proofs.Common.{◌≡◌, ℕ, List, subst}
use Rattle.dcd_base.specs.declared.steps.Actor.{Actor}
use Rattle.shared_device.specs.{declared.pass.Pass.Pass, declared.shared.Shared.Shared, Passing.IsNewPass}

pub by_same_actors : (s : Shared) (l m : List Actor) (k : ℕ) (p : Pass) → l ≡ m → IsNewPass s l k p → IsNewPass s m k p
by_same_actors s l m k p same new = subst (λ z. IsNewPass s z k p) same new
