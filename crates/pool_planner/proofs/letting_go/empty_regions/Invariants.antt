use Rattle.std.specs.{Prelude.flat_map, List.range_with_len}
use Rattle.journal_core.specs.Entries.{effects}
use Rattle.plan_rules.specs.Listing.{removal}
use Rattle.pool_planner.specs.Trials.{TriesMore}
use Rattle.pool_planner.proofs.letting_go.empty_regions.Given as goal

abbrev pub invariant-loop-region : goal.invariant-loop-region
invariant-loop-region l = TriesMore l.fn.trial l.trial (flat_map (removal l.control.config l.host (effects l.control.entries)) (range_with_len 0 l.region))
