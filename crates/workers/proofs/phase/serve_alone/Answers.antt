use Rattle.workers.{proofs.LonePass.lone_begun, proofs.LonePass.lone_ready, proofs.LonePass.lone_served, specs.Worklists.phase_of}
use Rattle.workers.proofs.phase.serve_alone.Goals as goal

pub serve_lines-requires-clause-ready : goal.serve_lines-requires-clause-ready
serve_lines-requires-clause-ready g c κs within =
    lone_ready g.H.Handler.reads c.args.handler.now (phase_of c.args.of.now) c.args.k c.args.passes.now c.index-passes-k.result c.requires.ready c.requires.pass

pub returns-clause-served : goal.returns-clause-served
returns-clause-served g c =
    lone_served g.H.Handler.reads c.args.handler.now c.args.of.now.hosts c.args.of.now.lanes c.args.of.now.first c.args.of.now.lines.now c.args.k c.args.passes.now c.index-passes-k.result
    c.serve_lines.new.pass c.serve_lines.result c.requires.ready c.requires.own c.requires.pass c.serve_lines.ensures.served

pub returns-clause-begun : goal.returns-clause-begun
returns-clause-begun g c =
    lone_begun g.H.Handler.reads c.args.handler.now c.args.of.now.hosts c.args.of.now.lanes c.args.of.now.first c.args.of.now.lines.now c.args.k c.args.passes.now c.index-passes-k.result
    c.serve_lines.new.pass c.requires.ready c.requires.own c.requires.pass c.serve_lines.ensures.begun
