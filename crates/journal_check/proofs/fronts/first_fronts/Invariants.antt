use Rattle.journal_check.proofs.Passing.{AreFirst}
use Rattle.journal_check.proofs.fronts.first_fronts.Given as goal

abbrev pub invariant-loop-pass : goal.invariant-loop-pass
invariant-loop-pass l = AreFirst l.script l.fronts.items l.pass
