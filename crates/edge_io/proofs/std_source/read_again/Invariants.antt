use Rattle.std.{proofs.Common.◌≡◌, proofs.Common.length, specs.Io.KnownBytes.Keeps}
use Rattle.edge_io.proofs.std_source.read_again.Given as goal

-- The buffer keeps its length, and a read that was interrupted took nothing.
abbrev pub invariant-loop : goal.invariant-loop
invariant-loop g l = (length l.buf ≡ length l.initial.buf) × Keeps (g.R.Read.remaining l.initial.reader) (g.R.Read.remaining l.reader)
