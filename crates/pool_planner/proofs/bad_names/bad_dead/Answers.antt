use Rattle.std.proofs.Common.{◌∙◌, length, sym, arith}
use Rattle.media_map.proofs.PlaceLemmas.{find_none}
use Rattle.region_config.proofs.GranuleLemmas.{find_range}
use Rattle.plan_rules.specs.Planning.{is_bad_dead}
use Rattle.pool_planner.proofs.bad_names.bad_dead.Goals as goal

pub returns-then-is_bad_dead : goal.returns-then-is_bad_dead
returns-then-is_bad_dead c = sym (find_range (is_bad_dead c.args.config.now c.args.demands.now) 0 (length c.args.demands.now.dead) c.loop-index.index (omega arith) (omega arith)
    (sym c.is_bad_dead.ensures ∙ c.if-is_bad_dead.true) (λ k low high. c.loop-index.invariant k high))

pub returns : goal.returns
returns c = sym (find_none (is_bad_dead c.args.config.now c.args.demands.now) 0 (length c.args.demands.now.dead)
    (λ k low high. c.loop-index.invariant k (omega (arith, high, c.loop-index-test.false))))
