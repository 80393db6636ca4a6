use Rattle.std.proofs.Common.{◌≡◌, ◌+◌, ◌≤◌, length, map, take, vec_capacity, vec_len}
use Rattle.journal_core.specs.declared.outcome.Effect.{Effect}
use Rattle.manager_commands.proofs.scrub.zeroes.Given as goal

-- The runs so far are zeroed, and there is room for the others.
abbrev pub invariant-loop-i : goal.invariant-loop-i
invariant-loop-i l = record {
  put : l.effects.items ≡ map Effect.Zero (take l.i l.runs);
  room : vec_len l.effects + length l.runs ≤ vec_capacity l.effects + l.i;
}
