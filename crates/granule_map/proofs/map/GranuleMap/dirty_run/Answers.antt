use Rattle.granule_map.{specs.StateLists.is_dirty_at, proofs.Stretches.run_of_next}
use Rattle.granule_map.proofs.map.GranuleMap.dirty_run.Goals as goal

pub returns-clause-count : goal.returns-clause-count
returns-clause-count c = run_of_next (is_dirty_at c.args.self.now.states) c.args.first c.args.most c.next_clean.result c.next_clean.ensures
