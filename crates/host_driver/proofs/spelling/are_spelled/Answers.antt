use Rattle.std.proofs.{Common.subst, lemmas.List.take_all}
use Rattle.host_driver.{specs.Spelling.AreSpelled, proofs.Spelled.entry_more}
use Rattle.host_driver.proofs.spelling.are_spelled.Goals as goal

pub loop-entry-preserved : goal.loop-entry-preserved
loop-entry-preserved c =
    entry_more c.args.journal.now c.loop-entry.entry-index c.entry-item.result c.loop-entry-test.true c.entry-item.is c.loop-entry.invariant c.effects_are_spelled.ensures

pub returns : goal.returns
returns c = subst AreSpelled (take_all c.loop-entry.entry-index c.args.journal.now c.loop-entry-test.false) c.loop-entry.invariant
