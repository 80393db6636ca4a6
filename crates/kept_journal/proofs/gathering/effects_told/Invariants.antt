use Rattle.std.proofs.Common.{◌≡◌, [], ◌++◌, None, length}
use Rattle.kept_journal.specs.{Slots.no_slots, Tokens.effects_from, Tokens.tokens_in}
use Rattle.kept_journal.proofs.gathering.effects_told.Given as goal

abbrev pub invariant-loop-token : goal.invariant-loop-token
invariant-loop-token l = l.effects ++ effects_from l.waiting l.tokens ≡ effects_from [] (tokens_in no_slots None l.bytes)

abbrev pub decreases-loop-token : goal.decreases-loop-token
decreases-loop-token l = length l.tokens
