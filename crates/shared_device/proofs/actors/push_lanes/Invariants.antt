use Rattle.std.{proofs.Common.◌≡◌, proofs.Common.◌++◌, specs.Prelude.replicate}
use Rattle.dcd_base.specs.declared.steps.Actor.{Actor}
use Rattle.shared_device.proofs.actors.push_lanes.Given as goal

abbrev pub invariant-loop : goal.invariant-loop
invariant-loop l = l.actors.items ≡ l.fn.actors.items ++ replicate l.counter (Actor.Host l.host)
