use Rattle.std.proofs.Common.{Some, ap, sym, take, ◌∙◌}
use Rattle.kept_journal.{specs.Keeping.width_of, specs.Lending.first_stamp, proofs.Keepings.kept_first, proofs.Keepings.none_kept}
use Rattle.kept_journal.proofs.lent_lists.LentEntriesLender.stamp.Goals as goal

pub returns-in-Some-clause-value : goal.returns-in-Some-clause-value
returns-in-Some-clause-value c =
    ap Some (c.stamp.ensures (take (width_of c.in-Some.first.now) c.self.inside.bytes.now))
    ∙ sym (ap first_stamp (sym c.self.view_is ∙ kept_first c.self.inside.before c.self.inside.kept.now c.in-Some.field-0-1.now c.in-Some.first.now c.self.inside.bytes.now c.in-Some.ensures.cases.0))

pub returns-in-None-clause-value : goal.returns-in-None-clause-value
returns-in-None-clause-value c = sym (ap first_stamp (sym c.self.view_is ∙ none_kept c.self.inside.before c.self.inside.kept.now c.self.inside.bytes.now c.in-None.ensures.cases))
