use Rattle.std.proofs.Common.{◌≡◌, ◌++◌, ◌+◌, ◌*◌, ◌≤◌, length, take, vec_capacity, vec_len}
use Rattle.device_rules.specs.ReleaseOutcomes.{removals}
use Rattle.device_commands.proofs.leaves.append_leaves.Given as goal

-- The extents so far have left, and there is room for the others.
abbrev pub invariant-loop-i : goal.invariant-loop-i
invariant-loop-i l = record {
  put : l.effects.items ≡ l.fn.changes ++ removals l.config l.host l.clean (take l.i l.extents);
  room : vec_len l.effects + 2 * length l.extents ≤ vec_capacity l.effects + 2 * l.i;
}
