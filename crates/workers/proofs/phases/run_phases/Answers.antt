use Rattle.std.proofs.Common.{rules, ◌+◌, ◌∙◌, ap, arith, length, length-append}
use Rattle.script_codec.specs.Scripts.{is_sound_line}
use Rattle.workers.proofs.Phasing.{all_served, phase_ready, phase_served, phase_stopped, some_served, sound_parts}
use Rattle.workers.proofs.phases.run_phases.Goals as goal

pub run_phase-requires-clause-ready : goal.run_phase-requires-clause-ready
run_phase-requires-clause-ready g c κs within =
    phase_ready g.H.Handler.reads c.args.handler.now (g.H.Handler.reads.hosts c.args.handler.now) c.args.lanes c.args.first_line c.args.lines.now c.loop-rest.number 0 c.loop-rest.rest.now
    c.split_at.result.0.now c.split_at.result.1.now c.args.passes.now c.loop-rest.passes c.split_at.ensures.by_index.0 c.requires.ready c.loop-rest.invariant.served

pub returns-in_err-run_phase-clause-begun : goal.returns-in_err-run_phase-clause-begun
returns-in_err-run_phase-clause-begun g c =
    phase_stopped g.H.Handler.reads c.args.handler.now (g.H.Handler.reads.hosts c.args.handler.now) c.args.lanes c.args.first_line c.args.lines.now c.loop-rest.number 0 c.loop-rest.rest.now
    c.split_at.result.0.now c.split_at.result.1.now c.args.passes.now c.loop-rest.passes c.run_phase.new.passes c.split_at.ensures.by_index.0 c.loop-rest.invariant.served c.run_phase.ensures.begun

pub loop-rest-preserved : goal.loop-rest-preserved
loop-rest-preserved g c =
    let numbers = c.loop-rest.invariant.numbers in
    let parts = c.split_at.ensures.by_index.0 in
    let long = ap length parts ∙ length-append c.split_at.result.0.now c.split_at.result.1.now in
    record {
      served =
          phase_served g.H.Handler.reads c.args.handler.now (g.H.Handler.reads.hosts c.args.handler.now) c.args.lanes c.args.first_line c.args.lines.now c.loop-rest.number
          (c.loop-rest.number + length c.split_at.result.0.now) 0 c.loop-rest.rest.now c.split_at.result.0.now c.split_at.result.1.now c.args.passes.now c.loop-rest.passes c.run_phase.new.passes
          parts (omega arith) c.loop-rest.invariant.served c.in_ok-run_phase.ensures.served;
      sound =
          (sound_parts (is_sound_line (g.H.Handler.reads.hosts c.args.handler.now) c.args.lanes) c.loop-rest.rest.now c.split_at.result.0.now c.split_at.result.1.now parts
          c.loop-rest.invariant.sound).1;
      count = c.run_phase.auto.passes ∙ c.loop-rest.invariant.count;
      numbers = omega (arith, numbers, long);
    }

pub returns-clause-served : goal.returns-clause-served
returns-clause-served g c =
    all_served g.H.Handler.reads c.args.handler.now (g.H.Handler.reads.hosts c.args.handler.now) c.args.lanes c.args.first_line c.args.lines.now c.loop-rest.number 0 c.loop-rest.rest.now c.args.passes.now
    c.loop-rest.passes (search rules) c.loop-rest.invariant.served

pub returns-clause-begun : goal.returns-clause-begun
returns-clause-begun g c =
    some_served g.H.Handler.reads c.args.handler.now (g.H.Handler.reads.hosts c.args.handler.now) c.args.lanes c.args.first_line c.args.lines.now c.loop-rest.number 0 c.loop-rest.rest.now c.args.passes.now
    c.loop-rest.passes c.loop-rest.invariant.served
