use Rattle.std.proofs.Common.{◌-◌, ◌≡◌, ◌≤◌, take}
use Rattle.journal_check.proofs.parting.agreeing_each.Given as goal

abbrev pub invariant-loop-n : goal.invariant-loop-n
invariant-loop-n l = record { within : l.n ≤ l.most; same : take l.n l.piece ≡ take l.n l.text }

abbrev pub decreases-loop-n : goal.decreases-loop-n
decreases-loop-n l = l.most - l.n
