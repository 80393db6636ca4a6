use Rattle.std.proofs.Common.{◌≡◌, ◌+◌, ◌≤◌, take}
use Rattle.host_driver.specs.Driving.{cut_all_out}
use Rattle.host_driver.proofs.tables.cut_all_out.Given as goal

abbrev pub invariant-loop-extent : goal.invariant-loop-extent
invariant-loop-extent l = record {
  cut : l.table.extents ≡ cut_all_out (take l.extent-index l.extents) l.fn.table.extents;
  spare : l.fn.table.spare ≤ l.table.spare + l.extent-index;
}
