use Rattle.std.proofs.Common.{sym, ap, ◌∙◌, position}
use Rattle.extent_list.{specs.ExtentLists.lies_in, proofs.FirstOwner.no_extent, proofs.Apart.only_owner}
use Rattle.extent_list.proofs.lookup.Owners.index_anywhere.Goals as goal

pub returns-in-Some-clause-value : goal.returns-in-Some-clause-value
returns-in-Some-clause-value c =
    sym (ap (position (lies_in c.args.extent.now)) (sym c.self.view_is)
    ∙ only_owner c.self.inside.list.now c.args.extent.now c.in-Some.index no_extent (c.self.invariant c.if-self.true) c.if-extent-gt0.true c.in-Some.ensures.known (c.in-Some.ensures.owner no_extent))
