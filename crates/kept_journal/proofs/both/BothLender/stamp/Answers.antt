use Rattle.std.proofs.Common.{ap, subst, ◌∙◌}
use Rattle.kept_journal.{specs.Lending.first_stamp, proofs.Pairs.both_rise, proofs.Pairs.stamp_of_first, proofs.Pairs.stamp_of_second}
use Rattle.journal_core.specs.Merging.{Rising}
use Rattle.kept_journal.proofs.both.BothLender.stamp.Goals as goal

pub returns-in-First-clause-value : goal.returns-in-First-clause-value
returns-in-First-clause-value g c =
    stamp_of_first _ _ _ _ _ c.self.invariant c.in-First.is ∙ ap first_stamp c.self.view_is

pub returns-in-First-clause-rising : goal.returns-in-First-clause-rising
returns-in-First-clause-rising g c = subst Rising c.self.view_is (both_rise (g.A.Lender.rest c.self.inside.first) (g.B.Lender.rest c.self.inside.second))

pub returns-in-Second-clause-value : goal.returns-in-Second-clause-value
returns-in-Second-clause-value g c =
    stamp_of_second _ _ _ _ _ c.self.invariant c.in-Second.is ∙ ap first_stamp c.self.view_is

pub returns-in-Second-clause-rising : goal.returns-in-Second-clause-rising
returns-in-Second-clause-rising g c = subst Rising c.self.view_is (both_rise (g.A.Lender.rest c.self.inside.first) (g.B.Lender.rest c.self.inside.second))
