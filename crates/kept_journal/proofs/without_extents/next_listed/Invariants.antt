use Rattle.std.proofs.Common.{◌≡◌, length}
use Rattle.kept_journal.specs.Tokens.{without_extents}
use Rattle.kept_journal.proofs.without_extents.next_listed.Given as goal

-- what is left has all that have none
abbrev pub invariant-loop-first : goal.invariant-loop-first
invariant-loop-first l = without_extents l.left ≡ without_extents l.effects

abbrev pub decreases-loop-first : goal.decreases-loop-first
decreases-loop-first l = length l.left
