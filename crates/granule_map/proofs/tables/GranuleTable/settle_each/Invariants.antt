use Rattle.std.proofs.Common.{◌-◌, ◌≤◌}
use Rattle.granule_map.specs.{Parts.between, Tables.IsChanged, Tables.settled}
use Rattle.granule_map.proofs.tables.GranuleTable.settle_each.Given as goal

abbrev pub invariant-loop-at : goal.invariant-loop-at
invariant-loop-at l = record {
  low : l.first ≤ l.at;
  high : l.at ≤ l.end;
  so_far : IsChanged settled (between l.first l.at) l.fn.self l.self;
}

abbrev pub decreases-loop-at : goal.decreases-loop-at
decreases-loop-at l = l.end - l.at
