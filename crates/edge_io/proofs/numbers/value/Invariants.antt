use Rattle.std.proofs.Common.{◌≡◌, ◌<◌, ◌^◌, take}
use Rattle.edge_io.specs.Words.{number_in}
use Rattle.edge_io.proofs.numbers.value.Given as goal

-- The first digits are read.
abbrev pub invariant-loop-i : goal.invariant-loop-i
invariant-loop-i l = record {
  value : l.number ≡ number_in (take l.i l.digits);
  below : l.number < 10 ^ l.i;
}
