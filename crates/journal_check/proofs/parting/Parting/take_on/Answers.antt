use Rattle.std.proofs.Common.{refl, sym}
use Rattle.journal_check.proofs.Pieces.{taken_all, taken_one}
use Rattle.journal_check.proofs.parting.Parting.take_on.Goals as goal

pub returns-then-n-piece-clause-taken : goal.returns-then-n-piece-clause-taken
returns-then-n-piece-clause-taken c = rw (sym c.self.view_is) (taken_one _ _ _ _ _ _ _ (rw (← c.self.view_is) at c.requires.whole) c.split_at.ensures.back c.agreeing-n.ensures.same c.if-n-piece.true refl)

pub returns-else-n-piece-clause-taken : goal.returns-else-n-piece-clause-taken
returns-else-n-piece-clause-taken c = rw (sym c.self.view_is) (taken_all _ _ _ _ _ _ (rw (← c.self.view_is) at c.requires.whole) c.split_at.ensures.back c.agreeing-n.ensures.same)
