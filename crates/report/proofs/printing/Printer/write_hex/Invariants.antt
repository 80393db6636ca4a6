use Rattle.std.{proofs.Common.◌≡◌, proofs.Common.◌++◌, proofs.Common.ℕ, proofs.Common.List, specs.Slice.Iter.chunks_rest, specs.Slice.Iter.chunks_size}
use Rattle.hex.specs.Hex.{encode_lower}
use Rattle.report.specs.Printing.{Prints}
use Rattle.report.proofs.printing.Printer.write_hex.Given as goal

-- The digits of the parts so far are put; the parts stand before what is left.
abbrev pub invariant-loop-part : goal.invariant-loop-part
invariant-loop-part g l = record {
  size : chunks_size l.part-iterator ≡ 64;
  done : List ℕ;
  parts : done ++ chunks_rest l.part-iterator ≡ l.bytes;
  puts : Prints (g.K.Sink.taken l.fn.sink) (g.K.Sink.faults l.fn.sink) l.fn.self
      (g.K.Sink.taken l.sink) (g.K.Sink.faults l.sink) l.self (encode_lower done);
}
