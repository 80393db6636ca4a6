use Rattle.std.proofs.Common.{◌≡◌, ◌≤◌, length}
use Rattle.tunnel_fabric.{specs.FabricLines.fabric_lines_from, proofs.FabricLists.with_fabric_lines}
use Rattle.tunnel_fabric.proofs.reading.lines_at.Given as goal

-- The lines that were read stand before those that are still to come.
abbrev pub invariant-loop-line : goal.invariant-loop-line
invariant-loop-line l = record {
  within : l.place ≤ length l.bytes;
  read : with_fabric_lines l.lines (fabric_lines_from l.left l.configs l.bytes l.place) ≡ fabric_lines_from 65536 l.configs l.bytes l.at;
}

abbrev pub decreases-loop-line : goal.decreases-loop-line
decreases-loop-line l = l.left
