use Rattle.std.proofs.lemmas.Result.{err_from_is_err_and}
use Rattle.plan_rules.proofs.Telling.{passed_on}
use Rattle.plan_rules.proofs.reading.stated_in.Goals as goal

pub returns-in_err-demands : goal.returns-in_err-demands
returns-in_err-demands c =
    let p = err_from_is_err_and c.from_residual.result c.from_residual.ensures.1 in
    rw (p.1, p.2) (passed_on _ _ _ c.in_err-demands.ensures (λ q stated. (q.demands, stated.demands)))

pub returns-in_err-dead : goal.returns-in_err-dead
returns-in_err-dead c =
    let p = err_from_is_err_and c.from_residual-in_err-dead.result c.from_residual-in_err-dead.ensures.1 in
    rw (p.1, p.2) (passed_on _ _ _ c.in_err-dead.ensures (λ q stated. (q.dead, stated.dead)))
