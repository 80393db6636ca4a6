use Rattle.std.proofs.Common.{◌+◌, take}
use Rattle.journal_core.specs.Entries.{effects}
use Rattle.journal_check.specs.{device_rules.specs.Counts.records_of, report.proofs.Parts.take_got}
use Rattle.explainer.{specs.Explanations.left_record, proofs.Lists.member_more}
use Rattle.explainer.proofs.logs.write_left_in.Goals as goal

pub loop-index-preserved : goal.loop-index-preserved
loop-index-preserved c =
    let records = records_of c.args.log.now (effects c.args.control.now.entries) in
    let index = c.loop-index.index in
    member_more (left_record c.args.log.now) c.args.out.now c.loop-index.out c.write_left.new.out (take index records) (take (index + 1) records) c.record-event.result
    c.loop-index.invariant c.in_ok-write_left.ensures
    (take_got records index c.record-event.result c.record-event.ensures (rw c.records-index-end.ensures at c.loop-index-test.true))
