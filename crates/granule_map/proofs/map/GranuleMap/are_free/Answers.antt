use Rattle.granule_map.{specs.StateLists.is_free_at, proofs.Stretches.all_of_next}
use Rattle.granule_map.proofs.map.GranuleMap.are_free.Goals as goal

pub returns : goal.returns
returns c = all_of_next (is_free_at c.args.self.now.states) c.args.first c.args.count c.next_taken.result c.next_taken.ensures
