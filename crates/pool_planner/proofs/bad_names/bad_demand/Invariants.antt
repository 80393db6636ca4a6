use Rattle.std.proofs.Common.{◌≡◌, ℕ, ◌<◌, false}
use Rattle.plan_rules.specs.Planning.{is_bad_demand}
use Rattle.pool_planner.proofs.bad_names.bad_demand.Given as goal

abbrev pub invariant-loop-index : goal.invariant-loop-index
invariant-loop-index l = (k : ℕ) → k < l.index → is_bad_demand l.config l.demands k ≡ false
