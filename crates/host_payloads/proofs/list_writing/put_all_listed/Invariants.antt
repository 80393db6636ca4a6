use Rattle.std.{proofs.Common.◌≡◌, proofs.Common.◌+◌, proofs.Common.◌*◌, proofs.Common.◌++◌, proofs.Common.flat_map, proofs.Common.take, specs.List.AllByRecursion}
use Rattle.host_payloads.specs.HostPayloads.{listed_bytes, FitsListed}
use Rattle.host_payloads.proofs.list_writing.put_all_listed.Given as goal

abbrev pub invariant-loop-extent : goal.invariant-loop-extent
invariant-loop-extent l = record {
  place : l.place ≡ l.at + 24 * l.extent-index;
  put : take l.place l.out ≡ take l.at l.fn.out ++ flat_map listed_bytes (take l.extent-index l.extents);
  fit : AllByRecursion FitsListed (take l.extent-index l.extents);
}
