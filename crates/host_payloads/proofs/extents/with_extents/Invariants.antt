use Rattle.std.{proofs.Common.◌≡◌, proofs.Common.◌++◌, proofs.Common.flat_map, proofs.Common.take, specs.List.AllByRecursion}
use Rattle.event_records.specs.dcd_base.specs.Extents.{extent_bytes, FitsExtent}
use Rattle.host_payloads.proofs.extents.with_extents.Given as goal

abbrev pub invariant-loop-extent : goal.invariant-loop-extent
invariant-loop-extent l = record {
  put : l.out ≡ l.fn.bytes ++ flat_map extent_bytes (take l.extent-index l.extents);
  fit : AllByRecursion FitsExtent (take l.extent-index l.extents);
}
