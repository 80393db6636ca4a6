use Rattle.std.{proofs.Common.flat_map, specs.List.range_with_len}
use Rattle.dcd_base.specs.declared.steps.LogId.{LogId}
use Rattle.journal_core.specs.Entries.{effects}
use Rattle.report.specs.{Texts.record_lines, Printing.Prints}
use Rattle.report.proofs.state_lines.write_host_records.Given as goal

-- The records of the hosts so far are put.
abbrev pub invariant-loop-host : goal.invariant-loop-host
invariant-loop-host g l =
    Prints (g.K.Sink.taken l.fn.sink) (g.K.Sink.faults l.fn.sink) l.fn.printer
    (g.K.Sink.taken l.sink) (g.K.Sink.faults l.sink) l.printer (flat_map (λ h. record_lines (effects l.control.entries) (LogId.Host h)) (range_with_len 0 l.host))
