use Rattle.std.{proofs.Common.◌≡◌, proofs.Common.take, specs.Prelude.flat_map}
use Rattle.pool_planner.specs.PlanPrinting.{plan_line}
use Rattle.pool_planner.proofs.printing.act_lines.Given as goal

abbrev pub invariant-loop-step : goal.invariant-loop-step
invariant-loop-step l = l.text ≡ flat_map plan_line (take l.step-index l.acts)
