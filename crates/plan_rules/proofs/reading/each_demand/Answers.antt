use Rattle.std.proofs.{Common.add-one, lemmas.Result.err_from_is_err_and}
use Rattle.plan_rules.{specs.DemandTexts.StatesDemand, proofs.Telling.passed_on, proofs.Zipped.zipped_at, proofs.Zipped.zipped_more}
use Rattle.plan_rules.proofs.reading.each_demand.Goals as goal

pub returns-in_err-demand_in : goal.returns-in_err-demand_in
returns-in_err-demand_in c =
    let p = err_from_is_err_and c.from_residual.result c.from_residual.ensures.1 in
    rw (p.1, p.2) (passed_on _ _ _ c.in_err-demand_in.ensures (zipped_at StatesDemand c.args.values.now c.loop-value.value-index _ c.value-item.is c.loop-value-test.true))

pub loop-value-preserved : goal.loop-value-preserved
loop-value-preserved c =
    rw (c.in_ok-push.ensures.pushed, add-one)
    (zipped_more StatesDemand c.args.values.now c.loop-value.value-index _ c.value-item.is c.loop-value-test.true c.loop-value.demands _ c.loop-value.invariant c.in_ok-demand_in.ensures)
