use Rattle.std.proofs.{Common.◌-◌, Common.◌+◌, Common.arith, Common.rules, lemmas.Result.err_from_is_err_and}
use Rattle.script_codec.{specs.Heads.region_from, proofs.Lists.many_goes_on, proofs.Lists.many_fails, proofs.Lists.many_done}
use Rattle.script_codec.proofs.heads.regions_at.Goals as goal

pub returns-in_err-region-clause-value : goal.returns-in_err-region-clause-value
returns-in_err-region-clause-value c =
    let p = err_from_is_err_and c.from_residual.result c.from_residual.ensures.1 in
    rw (p.1, p.2) (λ real. many_fails region_from c.loop.regions.items _ (c.args.count - c.loop.counter) (c.args.count - (c.loop.counter + 1)) c.args.bytes.now c.loop.place _ (omega (arith, c.loop-test.true)) (c.in_err-region.ensures.value real) c.loop.invariant.read)

pub loop-preserved : goal.loop-preserved
loop-preserved c = record {
  within = search rules;
  count = search rules;
  read = rw c.in_ok-push.ensures.items (many_goes_on region_from c.loop.regions.items (c.in_ok-region.region, c.in_ok-region.next) (c.args.count - c.loop.counter) (c.args.count - (c.loop.counter + 1)) c.args.bytes.now c.loop.place _ (omega (arith, c.loop-test.true)) c.in_ok-region.ensures.value c.loop.invariant.read);
}

pub returns-clause-value : goal.returns-clause-value
returns-clause-value c = many_done region_from c.loop.regions.items (c.args.count - c.loop.counter) c.args.bytes.now c.loop.place _ (omega (arith, c.loop-test.false)) c.loop.invariant.read
