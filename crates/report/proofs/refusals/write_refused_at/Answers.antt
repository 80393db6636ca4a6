use Rattle.report.proofs.Parts.{text_counts, text_failed, text_front, text_whole}
use Rattle.report.proofs.refusals.write_refused_at.Goals as goal

pub returns-clause-whole : goal.returns-clause-whole
returns-clause-whole g c =
    text_whole (g.K.Sink.taken c.finish.new.sink) (g.K.Sink.faults c.finish.new.sink) c.finish.result
    c.new-printer.ensures c.write_refused_line.ensures c.finish.ensures.whole

pub returns-clause-front : goal.returns-clause-front
returns-clause-front g c =
    text_front (g.K.Sink.taken c.finish.new.sink) (g.K.Sink.faults c.finish.new.sink) c.finish.result
    c.new-printer.ensures c.write_refused_line.ensures c.finish.ensures.failed

pub returns-clause-failed : goal.returns-clause-failed
returns-clause-failed g c =
    text_failed (g.K.Sink.taken c.finish.new.sink) (g.K.Sink.faults c.finish.new.sink) c.finish.result
    c.new-printer.ensures c.write_refused_line.ensures c.finish.ensures.failed

pub returns-clause-never_falls : goal.returns-clause-never_falls
returns-clause-never_falls g c =
    text_counts (g.K.Sink.taken c.finish.new.sink) (g.K.Sink.faults c.finish.new.sink) c.finish.result
    c.new-printer.ensures c.write_refused_line.ensures c.finish.ensures.whole c.finish.ensures.failed
