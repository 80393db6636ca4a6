use Rattle.std.proofs.Common.{refl}
use Rattle.kept_journal.proofs.CoderSteps.{codes_then}
use Rattle.kept_journal.proofs.coding.Coder.set_what.Goals as goal

pub returns-clause-slots : goal.returns-clause-slots
returns-clause-slots c =
    rw (c.set_flag.ensures.slots, c.set-4.ensures.slots, c.set-3.ensures.slots, c.set-2.ensures.slots, c.set.ensures.slots, c.from-3.ensures, c.from-2.ensures, c.from.ensures, c.number_of_kind.ensures) refl

pub returns-clause-coded : goal.returns-clause-coded
returns-clause-coded c =
    codes_then c.set.ensures.coded
    (codes_then c.set-2.ensures.coded (codes_then c.set-3.ensures.coded (codes_then c.set-4.ensures.coded c.set_flag.ensures.coded)))
