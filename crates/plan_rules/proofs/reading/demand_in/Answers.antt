use Rattle.std.proofs.lemmas.Result.{err_from_is_err_and}
use Rattle.plan_rules.proofs.Telling.{passed_on}
use Rattle.plan_rules.proofs.reading.demand_in.Goals as goal

pub returns-in_err-host : goal.returns-in_err-host
returns-in_err-host c =
    let p = err_from_is_err_and c.from_residual.result c.from_residual.ensures.1 in
    rw (p.1, p.2) (passed_on _ _ _ c.in_err-host.ensures (λ x stated. (x.host, stated.host)))

pub returns-in_err-region : goal.returns-in_err-region
returns-in_err-region c =
    let p = err_from_is_err_and c.from_residual-in_err-region.result c.from_residual-in_err-region.ensures.1 in
    rw (p.1, p.2) (passed_on _ _ _ c.in_err-region.ensures (λ x stated. (x.region, stated.region)))

pub returns-in_err-blocks : goal.returns-in_err-blocks
returns-in_err-blocks c =
    let p = err_from_is_err_and c.from_residual-in_err-blocks.result c.from_residual-in_err-blocks.ensures.1 in
    rw (p.1, p.2) (passed_on _ _ _ c.in_err-blocks.ensures (λ x stated. (x.blocks, stated.blocks)))
