use Rattle.std.proofs.Common.{subst, sym, ap, ◌∙◌}
use Rattle.extent_list.{specs.Apart.StandApart, specs.ExtentLists.holder_of, proofs.ApartLists.no_extent, proofs.ApartLists.only_holder}
use Rattle.extent_list.proofs.list.ExtentList.holder_from.Goals as goal

pub returns-in-Some : goal.returns-in-Some
returns-in-Some c =
    let start = c.args.extent.now.start in
    let bytes = c.args.extent.now.length in
    let apart = subst StandApart (sym c.as_slice.ensures) (c.requires c.if-apart.true) in
    sym (ap (holder_of start bytes) (sym c.as_slice.ensures)
    ∙ only_holder start bytes c.as_slice.result.now c.in-Some.index no_extent apart c.if-extent-gt0.true c.in-Some.ensures.known (c.in-Some.ensures.holder no_extent))
