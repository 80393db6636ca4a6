use Rattle.std.proofs.Common.{List, get_or, sym, ap, ◌∙◌}
use Rattle.dcd_base.specs.declared.capacity.Extent.{Extent}
use Rattle.extent_list.proofs.FirstOwner.{no_extent, owner_at, owner_none}
use Rattle.extent_list.proofs.lookup.Owners.owner_of.Goals as goal

pub returns-in-None : goal.returns-in-None
returns-in-None c = owner_none c.args.self.now c.args.extent.now (sym c.index_of.ensures.value ∙ c.in-None.is)

pub returns-in-Some : goal.returns-in-Some
returns-in-Some c =
    ap (λ (owners : List Extent). get_or owners c.in-Some.index no_extent) c.self.view_is
    ∙ owner_at c.args.self.now c.args.extent.now c.in-Some.index no_extent (sym c.index_of.ensures.value ∙ c.in-Some.is)
