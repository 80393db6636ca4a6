use Rattle.std.{proofs.Common.◌≡◌, proofs.Common.◌==◌, proofs.Common.◌*◌, proofs.Common.◌≤◌, proofs.Common.sum_by, proofs.Common.take, specs.Prelude.if◌then◌else◌}
use Rattle.plan_rules.specs.{declared.demands.Demand.Demand, Holding.gain}
use Rattle.journal_core.specs.Entries.{effects}
use Rattle.pool_planner.proofs.shortness.need_in.Given as goal

abbrev pub invariant-loop-i : goal.invariant-loop-i
invariant-loop-i l = record {
  summed : l.need ≡ sum_by (λ (x : Demand). if x.region == l.region then gain l.control.config (effects l.control.entries) x else 0) (take l.i l.demands);
  few : l.need ≤ l.i * 4294967296;
}
