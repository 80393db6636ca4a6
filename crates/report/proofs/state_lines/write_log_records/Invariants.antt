use Rattle.std.proofs.Common.{take, flat_map}
use Rattle.journal_core.specs.Entries.{effects}
use Rattle.control_core.specs.device_rules.specs.Counts.{records_of}
use Rattle.report.specs.{Texts.record_line, Printing.Prints}
use Rattle.report.proofs.state_lines.write_log_records.Given as goal

-- The lines of the records so far are put.
abbrev pub invariant-loop-index : goal.invariant-loop-index
invariant-loop-index g l =
    Prints (g.K.Sink.taken l.fn.sink) (g.K.Sink.faults l.fn.sink) l.fn.printer
    (g.K.Sink.taken l.sink) (g.K.Sink.faults l.sink) l.printer (flat_map (record_line l.log) (take l.index (records_of l.log (effects l.control.entries))))
