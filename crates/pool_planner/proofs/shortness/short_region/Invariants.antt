use Rattle.std.proofs.Common.{◌≡◌, ℕ, ◌<◌, false, nat_lt}
use Rattle.journal_core.specs.Entries.{effects}
use Rattle.plan_rules.specs.Planning.{free_in, need_in}
use Rattle.pool_planner.proofs.shortness.short_region.Given as goal

abbrev pub invariant-loop-region : goal.invariant-loop-region
invariant-loop-region l = (k : ℕ) → k < l.region →
    nat_lt (free_in l.control.config (effects l.tried.entries) k) (need_in l.control.config (effects l.control.entries) l.demands k) ≡ false
