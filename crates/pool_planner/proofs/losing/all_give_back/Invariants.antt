use Rattle.std.{proofs.Common.take, specs.Prelude.flat_map}
use Rattle.journal_core.specs.Entries.{effects}
use Rattle.plan_rules.specs.Listing.{give_back_surplus}
use Rattle.pool_planner.specs.Trials.{TriesMore}
use Rattle.pool_planner.proofs.losing.all_give_back.Given as goal

abbrev pub invariant-loop-i : goal.invariant-loop-i
invariant-loop-i l = TriesMore l.fn.trial l.trial (flat_map (give_back_surplus l.control.config (effects l.control.entries)) (take l.i l.demands))
