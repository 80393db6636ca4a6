use Rattle.std.proofs.Common.{ap, drop, ◌∙◌}
use Rattle.kept_journal.proofs.Pairs.{skip_first, skip_second}
use Rattle.kept_journal.proofs.both.BothLender.skip.Goals as goal

pub returns-in-First : goal.returns-in-First
returns-in-First g c =
    skip_first _ _ _ _ _ c.self.invariant c.in-First.is (g.A.Lender.rest c.skip.new.self) c.skip.ensures ∙ ap (drop 1) c.self.view_is

pub returns-in-Second : goal.returns-in-Second
returns-in-Second g c =
    skip_second _ _ _ _ _ c.self.invariant c.in-Second.is (g.B.Lender.rest c.skip-in-Second.new.self) c.skip-in-Second.ensures ∙ ap (drop 1) c.self.view_is
