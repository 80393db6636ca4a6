use Rattle.std.proofs.{Common.◌-◌, Common.◌+◌, Common.arith, Common.rules, lemmas.Result.err_from_is_err_and}
use Rattle.script_text.proofs.LineLoops.{bases_end, bases_fail, bases_go_on}
use Rattle.script_text.proofs.heads.bases.Goals as goal

pub returns-in_err-base-clause-value : goal.returns-in_err-base-clause-value
returns-in_err-base-clause-value c =
    let p = err_from_is_err_and c.from_residual.result c.from_residual.ensures.1 in
    rw (p.1, p.2) (λ real. bases_fail (c.args.count - c.loop.counter) (c.args.count - (c.loop.counter + 1)) c.loop.bases.items c.loop.words _ _ (omega (arith, c.loop-test.true)) (c.in_err-base.ensures.value real) c.loop.invariant.read)

pub loop-preserved : goal.loop-preserved
loop-preserved c = record {
  count = search rules;
  read = bases_go_on (c.args.count - c.loop.counter) (c.args.count - (c.loop.counter + 1)) c.loop.bases.items c.push.new.self.items c.loop.words c.number.new.words c.in_ok-base.base _ (omega (arith, c.loop-test.true)) c.in_ok-base.ensures.value
      c.in_ok-push.ensures.items c.loop.invariant.read;
}

pub returns-clause-value : goal.returns-clause-value
returns-clause-value c = bases_end (c.args.count - c.loop.counter) c.loop.bases.items c.loop.words _ (omega (arith, c.loop-test.false)) c.loop.invariant.read
