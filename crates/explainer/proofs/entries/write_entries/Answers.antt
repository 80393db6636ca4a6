use Rattle.std.{proofs.Common.◌++◌, proofs.Common.sym, proofs.Common.ap, proofs.Common.◌∙◌, specs.List.flat_map}
use Rattle.journal_check.specs.kept_journal.specs.Lending.{lent, lent_entry}
use Rattle.explainer.{specs.Explanations.entry_explained, proofs.Lists.entries_done, proofs.Lists.entry_more}
use Rattle.explainer.proofs.entries.write_entries.Goals as goal

pub loop-entry-preserved : goal.loop-entry-preserved
loop-entry-preserved g c =
    let words = entry_explained c.args.script.now in
    let rest = g.J.Lender.rest in
    entry_more words c.loop-entry.out c.write_entry.new.out (c.args.out.now ++ flat_map words (rest c.args.journal.now)) (rest c.loop-entry.journal) (rest c.skip.new.self)
    (lent_entry c.in-Some.entry) (ap lent (sym c.in-Some.is) ∙ c.peek.ensures) c.skip.ensures c.in_ok-write_entry.ensures c.loop-entry.invariant
