use Rattle.std.proofs.Common.{◌≡◌, ◌+◌, ◌≤◌, ◌++◌, length, take}
use Rattle.host_lists.proofs.changes.add_all.Given as goal

abbrev pub invariant-loop-extent : goal.invariant-loop-extent
invariant-loop-extent l = record {
  added : l.accepted.extents ≡ l.fn.accepted.extents ++ take l.extent-index l.extents;
  spare : length l.extents ≤ l.accepted.spare + l.extent-index;
  room : length l.fn.accepted.extents + l.fn.accepted.spare ≤ length l.accepted.extents + l.accepted.spare;
}
