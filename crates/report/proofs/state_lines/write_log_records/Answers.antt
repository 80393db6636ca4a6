use Rattle.std.proofs.Common.{take}
use Rattle.journal_core.specs.Entries.{effects}
use Rattle.control_core.specs.device_rules.specs.Counts.{records_of}
use Rattle.report.{specs.Texts.record_line, proofs.Parts.prints_each, proofs.Parts.take_got}
use Rattle.report.proofs.state_lines.write_log_records.Goals as goal

pub loop-index-preserved : goal.loop-index-preserved
loop-index-preserved g c =
    let records = records_of c.args.log.now (effects c.args.control.now.entries) in
    prints_each (record_line c.args.log.now) (take c.loop-index.index records) c.record-event.result
    c.loop-index.invariant c.write_record.ensures (take_got records c.loop-index.index c.record-event.result c.record-event.ensures
    (rw c.records-index-end.ensures at c.loop-index-test.true))
