use Rattle.std.{proofs.Common.◌≤◌, proofs.Common.◌-◌, proofs.Common.max, specs.Prelude.All}
use Rattle.extent_list.specs.media_map.specs.region_config.specs.Granules.{granule_total}
use Rattle.device_commands.specs.device_rules.specs.ChangedRuns.{IsSoundChange, LiesIn}
use Rattle.control_core.specs.PutChanges.{AreAdded, IsRegionOrNone, NameNoOthers}
use Rattle.control_core.proofs.changing.append_runs.Given as goal

abbrev pub invariant-loop-at : goal.invariant-loop-at
invariant-loop-at l = record {
  added : AreAdded (granule_total l.config) l.holders l.effect l.run.first l.at l.fn.changes l.changes;
  inside : All (LiesIn (granule_total l.config)) l.fn.changes → All (LiesIn (granule_total l.config)) l.changes;
  sound : NameNoOthers l.config l.holders → All (IsSoundChange l.config) l.fn.changes → All (IsSoundChange l.config) l.changes;
  region : IsRegionOrNone l.config l.region;
  from : l.run.first ≤ l.at;
  most : l.at ≤ max l.run.first l.end;
}

abbrev pub decreases-loop-at : goal.decreases-loop-at
decreases-loop-at l = l.end - l.at
