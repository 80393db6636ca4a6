use Rattle.std.{proofs.Common.◌≡◌, proofs.Common.◌+◌, proofs.Common.◌-◌, proofs.Common.◌≤◌, proofs.Common.◌++◌, proofs.Common.length, proofs.Common.map, specs.Prelude.All}
use Rattle.granule_map.specs.{Choices.joined, Choices.lowest_from, StateLists.is_dirty_at}
use Rattle.region_config.specs.Granules.{granule_total, same_region}
use Rattle.sanitizer.specs.Turns.{IsInRegion, run_of_pair, scrub_runs}
use Rattle.sanitizer.proofs.scrubbing.find_dirty.Given as goal

-- the runs that were found, and those of what is left, are all of them
abbrev pub invariant-loop-run : goal.invariant-loop-run
invariant-loop-run l = record {
  runs : l.runs ++ map run_of_pair (joined (same_region l.config) (lowest_from (is_dirty_at l.map.states) (granule_total l.config) l.at l.left))
      ≡ scrub_runs l.config (is_dirty_at l.map.states) l.n;
  regions : All (IsInRegion l.config) l.runs;
  few : length l.runs + l.left ≤ l.n;
}

abbrev pub decreases-loop-run : goal.decreases-loop-run
decreases-loop-run l = granule_total l.config - l.at
