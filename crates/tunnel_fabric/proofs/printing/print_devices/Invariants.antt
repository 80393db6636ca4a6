use Rattle.std.proofs.Common.{◌≤◌, []}
use Rattle.dcd_base.specs.Streams.{Passes}
use Rattle.tunnel_fabric.proofs.Printed.{first_texts}
use Rattle.tunnel_fabric.proofs.printing.print_devices.Given as goal

-- The texts of the first devices are written.
abbrev pub invariant-loop-i : goal.invariant-loop-i
invariant-loop-i g l = record {
  passes : Passes (g.K.Sink.taken l.fn.sink) (g.K.Sink.taken l.sink) [] (first_texts l.i l.devices);
  never_falls : g.K.Sink.faults l.fn.sink ≤ g.K.Sink.faults l.sink;
}
