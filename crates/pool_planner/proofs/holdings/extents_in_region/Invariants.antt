use Rattle.std.{proofs.Common.◌≡◌, proofs.Common.◌==◌, proofs.Common.◌≤◌, proofs.Common.length, proofs.Common.take, specs.List.filter}
use Rattle.media_map.specs.Places.{region_at}
use Rattle.pool_planner.proofs.holdings.extents_in_region.Given as goal

abbrev pub invariant-loop-extent : goal.invariant-loop-extent
invariant-loop-extent l = record {
  those : l.list ≡ filter (λ x. region_at l.config l.host x.start == l.region) (take l.extent-index l.extents);
  few : length l.list ≤ l.extent-index;
}
