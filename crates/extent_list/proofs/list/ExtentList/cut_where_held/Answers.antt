use Rattle.std.proofs.Common.{subst, sym, ◌∙◌}
use Rattle.extent_list.{specs.Apart.StandApart, specs.Rooms.Room, proofs.ApartLists.cut_apart, proofs.Holding.cut_nowhere}
use Rattle.extent_list.proofs.list.ExtentList.cut_where_held.Goals as goal

pub returns-in-None-clause-cut : goal.returns-in-None-clause-cut
returns-in-None-clause-cut c = sym (cut_nowhere c.args.extent.now.start c.args.extent.now.length c.args.self.now.extents (sym c.holder_from.ensures ∙ c.in-None.is))

pub returns-in-Ok-clause-apart : goal.returns-in-Ok-clause-apart
returns-in-Ok-clause-apart c = λ yes.
    let before = subst (λ (room : Room). StandApart room.extents) (sym c.self.view_is) (c.requires.apart yes) in
    subst StandApart (sym c.in-Ok.ensures.cut) (cut_apart c.args.extent.now.start c.args.extent.now.length c.self.inside.kept.items before)
