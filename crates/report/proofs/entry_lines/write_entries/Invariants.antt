use Rattle.std.{proofs.Common.◌≡◌, proofs.Common.◌++◌, proofs.Common.List, proofs.Common.flat_map, proofs.Common.length, specs.List.enumerate_from}
use Rattle.journal_core.specs.declared.entries.Entry.{Entry}
use Rattle.report.specs.{Texts.entry_line, Printing.Prints}
use Rattle.report.proofs.entry_lines.write_entries.Given as goal

-- The lines of the entries so far are put; they stand before those that are left.
abbrev pub invariant-loop-entry : goal.invariant-loop-entry
invariant-loop-entry g l = record {
  done : List Entry;
  count : l.count ≡ length done;
  parts : done ++ g.J.Lender.rest l.journal ≡ g.J.Lender.rest l.fn.journal;
  puts : Prints (g.K.Sink.taken l.fn.sink) (g.K.Sink.faults l.fn.sink) l.fn.printer
      (g.K.Sink.taken l.sink) (g.K.Sink.faults l.sink) l.printer (flat_map entry_line (enumerate_from 1 done));
}

abbrev pub decreases-loop-entry : goal.decreases-loop-entry
decreases-loop-entry g l = length (g.J.Lender.rest l.journal)
