use Rattle.std.proofs.Common.{◌≡◌, ◌+◌, ◌*◌, ◌++◌, flat_map, take}
use Rattle.dcd_base.specs.Layouts.{u64_bytes}
use Rattle.fm_payloads.proofs.replies.put_sizes.Given as goal

abbrev pub invariant-loop-size : goal.invariant-loop-size
invariant-loop-size l = record {
  place : l.place ≡ l.at + 8 * l.size-index;
  put : take l.place l.out ≡ take l.at l.fn.out ++ flat_map u64_bytes (take l.size-index l.sizes);
}
