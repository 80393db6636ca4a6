use Rattle.std.proofs.Common.{◌≡◌, ℕ, ◌<◌, false}
use Rattle.journal_core.specs.Entries.{effects}
use Rattle.plan_rules.specs.Planning.{is_open}
use Rattle.pool_planner.proofs.opening.open_host.Given as goal

abbrev pub invariant-loop-host : goal.invariant-loop-host
invariant-loop-host l = (k : ℕ) → k < l.host → is_open (effects l.control.entries) l.demands k ≡ false
