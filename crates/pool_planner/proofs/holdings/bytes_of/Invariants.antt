use Rattle.std.proofs.Common.{◌≡◌, ◌*◌, ◌≤◌, sum_by, take}
use Rattle.pool_planner.proofs.holdings.bytes_of.Given as goal

abbrev pub invariant-loop-extent : goal.invariant-loop-extent
invariant-loop-extent l = record {
  summed : l.bytes ≡ sum_by (λ x. x.length) (take l.extent-index l.extents);
  few : l.bytes ≤ l.extent-index * 18446744073709551615;
}
