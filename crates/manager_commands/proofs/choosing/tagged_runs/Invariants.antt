use Rattle.std.proofs.Common.{◌≡◌, ◌+◌, ◌≤◌, length, take, vec_capacity, vec_len}
use Rattle.manager_commands.specs.InitiateDynamicCapacityAdd.{tagged_runs}
use Rattle.manager_commands.proofs.choosing.tagged_runs.Given as goal

-- The extents so far are put, and there is room for the others.
abbrev pub invariant-loop-i : goal.invariant-loop-i
invariant-loop-i l = record {
  put : l.extents.items ≡ tagged_runs l.state l.asked l.shareable (take l.i l.runs);
  room : vec_len l.extents + length l.runs ≤ vec_capacity l.extents + l.i;
}
