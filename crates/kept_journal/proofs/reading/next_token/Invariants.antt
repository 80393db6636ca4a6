use Rattle.std.proofs.Common.{◌≡◌, None, length}
use Rattle.kept_journal.specs.{Slots.slots_in, Tokens.tokens_in}
use Rattle.kept_journal.proofs.reading.next_token.Given as goal

abbrev pub invariant-loop-first : goal.invariant-loop-first
invariant-loop-first l = tokens_in (slots_in l.slots) None l.left ≡ tokens_in (slots_in l.fn.slots) None l.bytes

abbrev pub decreases-loop-first : goal.decreases-loop-first
decreases-loop-first l = length l.left
