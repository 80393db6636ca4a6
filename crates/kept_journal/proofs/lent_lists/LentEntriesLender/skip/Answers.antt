use Rattle.std.proofs.Common.{ap, drop, length, subst, sym, ◌+◌, ◌∙◌}
use Rattle.kept_journal.{specs.Keeping.CanBeLent, specs.Keeping.entries_of, proofs.Keepings.kept_first, proofs.Keepings.lent_on, proofs.Keepings.none_kept, proofs.Lists.none_left}
use Rattle.kept_journal.proofs.lent_lists.LentEntriesLender.skip.Goals as goal

pub invariant_of-self : goal.invariant_of-self
invariant_of-self c =
    subst (λ b. CanBeLent (c.self.inside.before + 1) c.in-Some.rest.now b)
    (sym (c.split_at.ensures.back ∙ ap (λ n. drop n c.self.inside.bytes.now) c.width.ensures))
    (lent_on c.self.inside.before c.self.inside.kept.now c.in-Some.rest.now c.in-Some.first.now c.self.inside.bytes.now c.in-Some.ensures.cases.0 c.self.invariant)

pub returns-in-Some : goal.returns-in-Some
returns-in-Some c =
    ap (entries_of (c.self.inside.before + 1) c.in-Some.rest.now) (c.split_at.ensures.back ∙ ap (λ n. drop n c.self.inside.bytes.now) c.width.ensures)
    ∙ sym (ap (drop 1) (sym c.self.view_is ∙ kept_first c.self.inside.before c.self.inside.kept.now c.in-Some.rest.now c.in-Some.first.now c.self.inside.bytes.now c.in-Some.ensures.cases.0))

pub returns-in_default : goal.returns-in_default
returns-in_default c = none_left c.args.self.now (ap length (sym c.self.view_is ∙ none_kept c.self.inside.before c.self.inside.kept.now c.self.inside.bytes.now c.in_default.ensures.cases))
