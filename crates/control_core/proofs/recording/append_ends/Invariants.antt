use Rattle.std.proofs.Common.{◌≡◌, ◌++◌, map, take}
use Rattle.journal_core.specs.declared.outcome.Effect.{Effect}
use Rattle.control_core.proofs.recording.append_ends.Given as goal

-- The tags so far have ended.
abbrev pub invariant-loop-i : goal.invariant-loop-i
invariant-loop-i l = l.effects ≡ l.fn.effects ++ map Effect.TagEnd (take l.i l.tags)
