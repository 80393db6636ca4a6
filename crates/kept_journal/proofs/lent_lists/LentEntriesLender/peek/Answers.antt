use Rattle.std.proofs.Common.{Some, ap, sym, take, ◌+◌, ◌∙◌}
use Rattle.kept_journal.{specs.Keeping.kept_entry, specs.Lending.first_entry, proofs.Keepings.kept_first, proofs.Keepings.none_kept}
use Rattle.kept_journal.proofs.lent_lists.LentEntriesLender.peek.Goals as goal

pub returns-in-Some : goal.returns-in-Some
returns-in-Some c =
    ap Some (c.lend.ensures
    ∙ ap (kept_entry (c.self.inside.before + 1) c.in-Some.first.now) (c.split_at.ensures.front ∙ ap (λ n. take n c.self.inside.bytes.now) c.width.ensures))
    ∙ sym (ap first_entry (sym c.self.view_is ∙ kept_first c.self.inside.before c.self.inside.kept.now c.in-Some.field-0-1.now c.in-Some.first.now c.self.inside.bytes.now c.in-Some.ensures.cases.0))

pub returns-in-None : goal.returns-in-None
returns-in-None c = sym (ap first_entry (sym c.self.view_is ∙ none_kept c.self.inside.before c.self.inside.kept.now c.self.inside.bytes.now c.in-None.ensures.cases))
