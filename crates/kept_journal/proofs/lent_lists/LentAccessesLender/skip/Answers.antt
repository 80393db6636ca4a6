use Rattle.journal_core.proofs.Rising.{rises_on}
use Rattle.kept_journal.proofs.lent_lists.LentAccessesLender.skip.Goals as goal

pub invariant_of-self : goal.invariant_of-self
invariant_of-self c = rises_on c.self.inside.accesses.now c.in-Some.rest.now c.in-Some.field-0-0.now c.in-Some.ensures.cases.0 c.self.invariant
