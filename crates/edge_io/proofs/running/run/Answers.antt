use Rattle.std.proofs.Common.{refl}
use Rattle.edge_io.{specs.Words.words_of, specs.Runs.seen_of, proofs.Endings.begun_so, proofs.Endings.no_input, proofs.Endings.stopped_so, proofs.Endings.written_so}
use Rattle.edge_io.proofs.running.run.Goals as goal

pub returns-in-Ok-print : goal.returns-in-Ok-print
returns-in-Ok-print g c =
    let m = g.P.Program.means c.args.program.now in
    let words = words_of c.args.words.now in
    let task = c.in-Some.task in
    record {
      ends = written_so m words (seen_of g.S.Source.left g.S.Source.faults g.K.Sink.taken g.K.Sink.faults c.args.source.now c.settle.new.source c.args.sink.now c.print.new.sink)
          task c.in-Some.ensures.asked c.in-Some.ensures.alone c.in-Ok.status (g.P.Program.bytes c.in-Ok.text) c.in-Ok.ensures.settles c.in-Ok-print.ensures.whole c.in-Ok.ensures.taken;
      untouched = λ none. c.in-Ok.ensures.untouched (no_input m words task c.in-Some.ensures.asked none (m.most task) refl);
    }

pub returns-in-Err-print : goal.returns-in-Err-print
returns-in-Err-print g c =
    let m = g.P.Program.means c.args.program.now in
    let words = words_of c.args.words.now in
    let task = c.in-Some.task in
    record {
      ends = begun_so m words (seen_of g.S.Source.left g.S.Source.faults g.K.Sink.taken g.K.Sink.faults c.args.source.now c.settle.new.source c.args.sink.now c.print.new.sink)
          task c.in-Some.ensures.asked c.in-Some.ensures.alone c.in-Ok.status (g.P.Program.bytes c.in-Ok.text) c.in-Ok.ensures.settles c.in-Err-print.ensures.front c.in-Err-print.ensures.failed
          c.in-Ok.ensures.taken c.stopped.result c.stopped.ensures;
      untouched = λ none. c.in-Ok.ensures.untouched (no_input m words task c.in-Some.ensures.asked none (m.most task) refl);
    }

pub returns-in-Err : goal.returns-in-Err
returns-in-Err g c =
    let m = g.P.Program.means c.args.program.now in
    let words = words_of c.args.words.now in
    let task = c.in-Some.task in
    record {
      ends = stopped_so m words (seen_of g.S.Source.left g.S.Source.faults g.K.Sink.taken g.K.Sink.faults c.args.source.now c.settle.new.source c.args.sink.now c.args.sink.now)
          task c.in-Some.ensures.asked c.in-Some.ensures.alone c.in-Err.stop c.in-Err.ensures.settles refl c.in-Err.ensures.taken c.stopped-in-Err.result c.stopped-in-Err.ensures;
      untouched = λ none. c.in-Err.ensures.untouched (no_input m words task c.in-Some.ensures.asked none (m.most task) refl);
    }
