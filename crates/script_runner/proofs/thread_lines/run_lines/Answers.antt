use Rattle.std.proofs.lemmas.Result.{on_ok_weaker}
use Rattle.script_runner.{specs.declared.gated.Gated.Gated, proofs.LinesRan.all_ran, proofs.NewPassesReady.all_ready}
use Rattle.script_runner.proofs.thread_lines.run_lines.Goals as goal

pub run_phases-requires-clause-ready : goal.run_phases-requires-clause-ready
run_phases-requires-clause-ready g c κs within =
    all_ready {H = Gated g.row.G.Denot} (λ handler. handler.device.now) (record { device = c.args.device; gate = c.args.gate }) c.args.lanes c.args.lines.now c.requires.few c.args.passes.now
    c.requires.new

pub returns : goal.returns
returns g c = record {
  ran =
      on_ok_weaker c.run_phases.result
      (all_ran {H = Gated g.row.G.Denot} (λ handler. handler.device.now) (record { device = c.args.device; gate = c.args.gate }) c.args.lanes c.args.lines.now c.args.passes.now c.run_phases.new.passes
      c.requires.new)
      c.run_phases.ensures.served;
}
