use Rattle.std.{proofs.Common.◌-◌, proofs.Common.◌+◌, proofs.Common.arith, proofs.Common.rules, proofs.lemmas.Result.err_from_is_err_and, specs.Int.w64}
use Rattle.script_codec.{specs.Fields.number_from, proofs.Lists.many_goes_on, proofs.Lists.many_fails, proofs.Lists.many_done}
use Rattle.script_codec.proofs.heads.bases_at.Goals as goal

pub returns-in_err-base-clause-value : goal.returns-in_err-base-clause-value
returns-in_err-base-clause-value c =
    let p = err_from_is_err_and c.from_residual.result c.from_residual.ensures.1 in
    rw (p.1, p.2) (λ real. many_fails (number_from w64) c.loop.bases.items _ (c.args.count - c.loop.counter) (c.args.count - (c.loop.counter + 1)) c.args.bytes.now c.loop.place _ (omega (arith, c.loop-test.true)) (c.in_err-base.ensures.value real) c.loop.invariant.read)

pub loop-preserved : goal.loop-preserved
loop-preserved c = record {
  within = search rules;
  count = search rules;
  read = rw c.in_ok-push.ensures.items (many_goes_on (number_from w64) c.loop.bases.items (c.in_ok-base.base, c.in_ok-base.next) (c.args.count - c.loop.counter) (c.args.count - (c.loop.counter + 1)) c.args.bytes.now c.loop.place _ (omega (arith, c.loop-test.true)) c.in_ok-base.ensures.value c.loop.invariant.read);
}

pub returns-clause-value : goal.returns-clause-value
returns-clause-value c = many_done (number_from w64) c.loop.bases.items (c.args.count - c.loop.counter) c.args.bytes.now c.loop.place _ (omega (arith, c.loop-test.false)) c.loop.invariant.read
