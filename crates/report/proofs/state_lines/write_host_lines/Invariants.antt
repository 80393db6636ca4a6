use Rattle.std.{proofs.Common.flat_map, specs.List.range_with_len}
use Rattle.journal_core.specs.Entries.{effects}
use Rattle.report.specs.{Texts.host_line, Printing.Prints}
use Rattle.report.proofs.state_lines.write_host_lines.Given as goal

-- The lines of the hosts so far are put.
abbrev pub invariant-loop-host : goal.invariant-loop-host
invariant-loop-host g l =
    Prints (g.K.Sink.taken l.fn.sink) (g.K.Sink.faults l.fn.sink) l.fn.printer
    (g.K.Sink.taken l.sink) (g.K.Sink.faults l.sink) l.printer (flat_map (host_line l.control.config (effects l.control.entries)) (range_with_len 0 l.host))
