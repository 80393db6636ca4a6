use Rattle.std.proofs.Common.{ap}
use Rattle.granule_map.{specs.StateLists.States, specs.Told.states_of, proofs.Marked.dirty_next}
use Rattle.granule_map.proofs.map.GranuleMap.next_dirty_below.Goals as goal

pub returns : goal.returns
returns c =
    dirty_next (states_of c.self.inside.marks.items c.self.inside.hosts.items c.self.inside.tags.items) c.args.self.now.states c.self.inside.marks.items c.as_slice.result.now c.self.invariant.kept.marked
    (ap (λ (s : States). s.states) c.self.view_is) c.as_slice.ensures.value c.args.from c.args.end c.next_with.result c.requires.within c.next_with.ensures
