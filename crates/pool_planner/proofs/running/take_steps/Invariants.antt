use Rattle.std.proofs.Common.{take}
use Rattle.pool_planner.specs.PlanRuns.{IsBehindList}
use Rattle.pool_planner.proofs.running.take_steps.Given as goal

-- The first acts are done.
abbrev pub invariant-loop-step : goal.invariant-loop-step
invariant-loop-step l = IsBehindList l.fn.device l.device (take l.step-index l.acts)
