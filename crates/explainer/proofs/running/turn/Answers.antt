use Rattle.std.proofs.Common.{rules}
use Rattle.explainer.proofs.Ends.{refused_ends}
use Rattle.explainer.proofs.running.turn.Goals as goal

pub returns : goal.returns
returns g c =
    refused_ends c.args.name.now c.args.task c.args.input.now c.in-Err.refusal (g.K.Sink.taken c.args.sink.now) (g.K.Sink.faults c.args.sink.now) (g.K.Sink.taken c.refuse.new.sink) (g.K.Sink.faults c.refuse.new.sink) c.refuse.result
    (search rules) c.in-Err.ensures c.refuse.ensures
