use Rattle.std.proofs.Common.{◌∙◌, [], ◌∷◌, drop, sym}
use Rattle.device_state.proofs.ToldTwice.{none_told}
use Rattle.device_state.proofs.listing.tell.Goals as goal

pub returns-then-is_empty-clause-told : goal.returns-then-is_empty-clause-told
returns-then-is_empty-clause-told c =
    none_told c.args.host (record c.args.lists.now { offers = drop c.args.first c.args.lists.now.offers }) (c.args.tag.now ∷ []) c.args.tags.now.entries (sym c.is_empty.ensures ∙ c.if-is_empty.true)
