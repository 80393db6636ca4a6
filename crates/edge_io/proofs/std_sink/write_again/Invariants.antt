use Rattle.std.specs.Io.KnownBytes.{Keeps}
use Rattle.edge_io.proofs.std_sink.write_again.Given as goal

-- A write that was interrupted added nothing.
abbrev pub invariant-loop : goal.invariant-loop
invariant-loop g l = Keeps (g.W.Write.contents l.initial.writer) (g.W.Write.contents l.writer)
