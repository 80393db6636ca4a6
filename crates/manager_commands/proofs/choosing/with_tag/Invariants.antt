use Rattle.std.proofs.Common.{◌≡◌, ◌+◌, ◌≤◌, length, take, vec_capacity, vec_len}
use Rattle.device_state.specs.device_rules.specs.Adding.{with_tag}
use Rattle.manager_commands.proofs.choosing.with_tag.Given as goal

-- The extents so far are tagged, and there is room for the others.
abbrev pub invariant-loop-i : goal.invariant-loop-i
invariant-loop-i l = record {
  put : l.tagged.items ≡ with_tag l.shareable l.tag (take l.i l.extents);
  room : vec_len l.tagged + length l.extents ≤ vec_capacity l.tagged + l.i;
}
