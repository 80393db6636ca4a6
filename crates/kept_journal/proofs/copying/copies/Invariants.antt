use Rattle.std.proofs.Common.{◌≡◌, ◌++◌, length}
use Rattle.kept_journal.proofs.copying.copies.Given as goal

-- Those that are copied stand before those that are left.
abbrev pub invariant-loop-entry : goal.invariant-loop-entry
invariant-loop-entry g l = l.entries.items ++ g.J.Lender.rest l.lender ≡ g.J.Lender.rest l.fn.lender

abbrev pub decreases-loop-entry : goal.decreases-loop-entry
decreases-loop-entry g l = length (g.J.Lender.rest l.lender)
