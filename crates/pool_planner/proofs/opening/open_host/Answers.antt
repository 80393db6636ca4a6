use Rattle.std.proofs.Common.{◌∙◌, sym, arith}
use Rattle.journal_core.specs.Entries.{effects}
use Rattle.media_map.proofs.PlaceLemmas.{find_none}
use Rattle.region_config.proofs.GranuleLemmas.{find_range}
use Rattle.plan_rules.specs.Planning.{is_open}
use Rattle.pool_planner.proofs.opening.open_host.Goals as goal

pub returns-then-is_open : goal.returns-then-is_open
returns-then-is_open c =
    let known = rw (c.hosts-host-end.ensures.value, c.first_config.ensures) at c.loop-host-test.true in
    sym (find_range (is_open (effects c.args.control.now.entries) c.args.demands.now) 0 c.args.control.now.config.hosts c.loop-host.host (omega arith) (omega (arith, known))
    (sym c.is_open.ensures ∙ c.if-is_open.true) (λ k low high. c.loop-host.invariant k high))

pub returns : goal.returns
returns c =
    let past = rw (c.hosts-host-end.ensures.value, c.first_config.ensures) at c.loop-host-test.false in
    sym (find_none (is_open (effects c.args.control.now.entries) c.args.demands.now) 0 c.args.control.now.config.hosts (λ k low high. c.loop-host.invariant k (omega (arith, high, past))))
