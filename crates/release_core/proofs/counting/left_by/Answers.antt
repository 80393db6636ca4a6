use Rattle.std.proofs.Common.{ap, length, position, sym, ◌∙◌}
use Rattle.extent_list.{proofs.Holding.cut_nowhere, specs.ExtentLists.lies_in}
use Rattle.release_core.proofs.counting.left_by.Goals as goal

pub returns-in-None-clause-left : goal.returns-in-None-clause-left
returns-in-None-clause-left c =
    let x = c.args.extent.now in
    c.len.ensures ∙ ap length (sym (cut_nowhere x.start x.length c.args.accepted.now.extents (ap (position (lies_in x)) (sym c.requires.owners) ∙ sym c.place_of.ensures.value ∙ c.in-None.is)))
