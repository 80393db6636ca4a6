use Rattle.std.proofs.Common.{◌≡◌, ◌++◌, ◌+◌, ◌≤◌, length, take, vec_capacity, vec_len}
use Rattle.host_commands.specs.AddDynamicCapacityResponse.{takes}
use Rattle.host_commands.proofs.add_dynamic_capacity_response.append_takes.Given as goal

-- The extents so far are taken, and there is room for the others.
abbrev pub invariant-loop-i : goal.invariant-loop-i
invariant-loop-i l = record {
  put : l.changes.items ≡ l.fn.changes.items ++ takes l.present l.host (take l.i l.extents);
  room : vec_len l.changes + length l.extents ≤ vec_capacity l.changes + l.i;
}
