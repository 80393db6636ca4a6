use Rattle.std.{proofs.Common.◌≡◌, proofs.Common.◌≤◌, proofs.Common.take, specs.Prelude.count_by}
use Rattle.granule_map.specs.StateLists.{same_state}
use Rattle.granule_map.proofs.map.GranuleMap.count.Given as goal

abbrev pub invariant-loop-granule : goal.invariant-loop-granule
invariant-loop-granule l = (l.count ≡ count_by (same_state l.state) (take l.granule l.self.states)) × (l.count ≤ l.granule)
