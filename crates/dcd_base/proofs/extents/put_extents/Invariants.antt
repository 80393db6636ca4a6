use Rattle.std.{proofs.Common.◌≡◌, proofs.Common.◌+◌, proofs.Common.◌*◌, proofs.Common.◌++◌, proofs.Common.drop, proofs.Common.flat_map, proofs.Common.take, specs.List.AllByRecursion}
use Rattle.dcd_base.specs.Extents.{extent_bytes, FitsExtent}
use Rattle.dcd_base.proofs.extents.put_extents.Given as goal

abbrev pub invariant-loop-extent : goal.invariant-loop-extent
invariant-loop-extent l = record {
  place : l.place ≡ l.at + 40 * l.extent-index;
  put : take l.place l.out ≡ take l.at l.fn.out ++ flat_map extent_bytes (take l.extent-index l.extents);
  rest : drop l.place l.out ≡ drop l.place l.fn.out;
  fit : AllByRecursion FitsExtent (take l.extent-index l.extents);
}
