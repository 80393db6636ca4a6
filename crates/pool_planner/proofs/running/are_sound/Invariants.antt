use Rattle.std.{proofs.Common.take, specs.List.All}
use Rattle.pool_planner.specs.PlanPrinting.{IsSoundStep}
use Rattle.pool_planner.proofs.running.are_sound.Given as goal

abbrev pub invariant-loop-step : goal.invariant-loop-step
invariant-loop-step l = All (IsSoundStep l.hosts) (take l.step-index l.acts)
