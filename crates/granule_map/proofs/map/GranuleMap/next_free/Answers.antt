use Rattle.std.proofs.Common.{ap}
use Rattle.granule_map.{specs.StateLists.States, specs.Told.states_of, proofs.Marked.free_next}
use Rattle.granule_map.proofs.map.GranuleMap.next_free.Goals as goal

pub returns : goal.returns
returns c =
    free_next (states_of c.self.inside.marks.items c.self.inside.hosts.items c.self.inside.tags.items) c.args.self.now.states c.self.inside.marks.items c.as_slice.result.now c.self.invariant.kept.marked
    (ap (λ (s : States). s.states) c.self.view_is) c.as_slice.ensures.value c.args.from c.args.end c.next_behind.result c.requires.within c.next_behind.ensures
