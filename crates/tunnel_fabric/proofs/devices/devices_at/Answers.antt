use Rattle.std.proofs.{Common.◌-◌, Common.◌+◌, Common.arith, Common.rules, lemmas.Result.err_from_is_err_and}
use Rattle.tunnel_fabric.proofs.FabricLists.{devices_go_on, devices_fail, devices_done}
use Rattle.tunnel_fabric.proofs.devices.devices_at.Goals as goal

pub returns-in_err-config-clause-value : goal.returns-in_err-config-clause-value
returns-in_err-config-clause-value c =
    let p = err_from_is_err_and c.from_residual.result c.from_residual.ensures.1 in
    rw (p.1, p.2) (λ real. devices_fail c.loop.configs _ (c.args.count - c.loop.counter) (c.args.count - (c.loop.counter + 1)) c.args.bytes.now c.loop.place _ (omega (arith, c.loop-test.true)) (c.in_err-config.ensures.value real) c.loop.invariant.read)

pub loop-preserved : goal.loop-preserved
loop-preserved c = record {
  within = search rules;
  read = rw c.in_ok-push.ensures.pushed (devices_go_on c.loop.configs (c.in_ok-config.config, c.in_ok-config.next) (c.args.count - c.loop.counter) (c.args.count - (c.loop.counter + 1)) c.args.bytes.now c.loop.place _ (omega (arith, c.loop-test.true)) c.in_ok-config.ensures.value c.loop.invariant.read);
}

pub returns-clause-value : goal.returns-clause-value
returns-clause-value c = devices_done c.loop.configs (c.args.count - c.loop.counter) c.args.bytes.now c.loop.place _ (omega (arith, c.loop-test.false)) c.loop.invariant.read
