use Rattle.std.proofs.Common.{◌∙◌, drop, sym}
use Rattle.device_rules.specs.Outcomes.{no_extent}
use Rattle.device_state.proofs.ToldTwice.{told_before}
use Rattle.device_state.proofs.listing.tell_next.Goals as goal

pub returns-else-not-has_tag_before-clause-told : goal.returns-else-not-has_tag_before-clause-told
returns-else-not-has_tag_before-clause-told c = λ entries so_far.
    let has = c.has_tag_before.ensures no_extent c.if-not-has_tag_before.false in
    so_far
    ∙ sym (told_before c.args.host (record c.args.lists.now { offers = drop c.args.first c.args.lists.now.offers }) c.args.extents.now entries c.args.index no_extent c.requires.host c.requires.index has.0 has.1)
