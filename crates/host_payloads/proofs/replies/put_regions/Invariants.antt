use Rattle.std.proofs.Common.{◌≡◌, ◌+◌, ◌*◌, ◌++◌, flat_map, take}
use Rattle.host_payloads.specs.HostPayloads.{region_bytes}
use Rattle.host_payloads.proofs.replies.put_regions.Given as goal

abbrev pub invariant-loop-region : goal.invariant-loop-region
invariant-loop-region l = record {
  place : l.place ≡ l.at + 40 * l.region-index;
  put : take l.place l.out ≡ take l.at l.fn.out ++ flat_map region_bytes (take l.region-index l.regions);
}
