use Rattle.std.proofs.Common.{◌≡◌, ◌+◌, ◌++◌, ◌≤◌, take}
use Rattle.host_driver.proofs.tables.append.Given as goal

abbrev pub invariant-loop-extent : goal.invariant-loop-extent
invariant-loop-extent l = record {
  appended : l.table.extents ≡ l.fn.table.extents ++ take l.extent-index l.extents;
  spare : l.fn.table.spare ≤ l.table.spare + l.extent-index;
}
