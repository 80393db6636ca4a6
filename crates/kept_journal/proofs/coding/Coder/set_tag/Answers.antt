use Rattle.std.proofs.Common.{rules}
use Rattle.kept_journal.proofs.{CoderSteps.codes_then, Slotting.small_bytes, Slotting.tag_halves}
use Rattle.kept_journal.proofs.coding.Coder.set_tag.Goals as goal

pub returns-clause-coded : goal.returns-clause-coded
returns-clause-coded c = codes_then c.set.ensures.coded c.set-2.ensures.coded

pub returns-clause-back : goal.returns-clause-back
returns-clause-back c = λ slots i. record { 0 = tag_halves c.args.tag.now.0 (search rules) (small_bytes _ c.are_bytes.ensures) i }
