use Rattle.std.proofs.Common.{sym, arith, length}
use Rattle.media_map.proofs.PlaceLemmas.{none_found}
use Rattle.plan_rules.specs.Planning.{is_bad_dead, is_bad_demand}
use Rattle.pool_planner.proofs.Placing.{are_placed}
use Rattle.pool_planner.proofs.naming.named_fault.Goals as goal

pub returns-in-None-bad_dead-clause-placed : goal.returns-in-None-bad_dead-clause-placed
returns-in-None-bad_dead-clause-placed c =
    let cfg = c.args.config.now in
    let q = c.args.demands.now in
    are_placed cfg q c.hosts-hosts.ensures.sound
    (λ k below. none_found (is_bad_demand cfg q) 0 (length q.demands) (sym c.in-None.ensures) k (omega arith) (omega (arith, below)))
    (λ k below. none_found (is_bad_dead cfg q) 0 (length q.dead) (sym c.in-None-bad_dead.ensures) k (omega arith) (omega (arith, below)))
