use Rattle.std.proofs.Common.{subst}
use Rattle.script_runner.specs.ScriptPasses.{HaveRun}
use Rattle.script_runner.proofs.running.run_in_threads.Goals as goal

pub take_apart-requires-clause-done : goal.take_apart-requires-clause-done
take_apart-requires-clause-done g c = record {
  config = c.in_ok-device.ensures.config;
  count = c.in_ok-device.ensures.count;
  seats = c.in_ok-device.ensures.seats;
  ran = subst (λ lines. HaveRun c.in_ok-device.device c.args.script.now.lanes lines c.in_ok-device.passes.items) c.as_slice-lines.ensures c.in_ok-device.ensures.ran;
}
