use Rattle.std.{proofs.Common.take, specs.Prelude.All}
use Rattle.extent_list.specs.media_map.specs.region_config.specs.Granules.{granule_total}
use Rattle.device_commands.specs.device_rules.specs.ChangedRuns.{IsSoundChange, LiesIn}
use Rattle.control_core.specs.PutChanges.{ArePut, IsRegionOrNone, NameNoOthers}
use Rattle.control_core.proofs.changing.append_all.Given as goal

abbrev pub invariant-loop-i : goal.invariant-loop-i
invariant-loop-i l = record {
  put : ArePut (granule_total l.config) l.holders (take l.i l.effects) l.changes;
  inside : All (LiesIn (granule_total l.config)) l.changes;
  sound : NameNoOthers l.config l.holders → All (IsSoundChange l.config) l.changes;
  region : IsRegionOrNone l.config l.region;
}
