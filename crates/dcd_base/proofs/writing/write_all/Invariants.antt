use Rattle.std.proofs.Common.{length, ◌-◌, ◌≤◌, drop}
use Rattle.dcd_base.specs.Streams.{Passes}
use Rattle.dcd_base.proofs.writing.write_all.Given as goal

-- What is behind the place is left to be written, and no fault was taken back.
abbrev pub invariant-loop-at : goal.invariant-loop-at
invariant-loop-at g l = record {
  within : l.at ≤ length l.piece;
  passes : Passes (g.K.Sink.taken l.fn.sink) (g.K.Sink.taken l.sink) (drop l.at l.piece) l.piece;
  never_falls : g.K.Sink.faults l.fn.sink ≤ g.K.Sink.faults l.sink;
}

abbrev pub decreases-loop-at : goal.decreases-loop-at
decreases-loop-at g l = length l.piece - l.at
