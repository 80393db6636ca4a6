use Rattle.std.proofs.Common.{◌≡◌, ◌++◌, List, length}
use Rattle.journal_core.specs.declared.entries.Entry.{Entry}
use Rattle.plan_rules.specs.PlanAlike.{replayed}
use Rattle.pool_planner.proofs.replaying.take_all.Given as goal

-- The entries so far are taken again; they stand before those that are left.
abbrev pub invariant-loop-entry : goal.invariant-loop-entry
invariant-loop-entry g l = record {
  done : List Entry;
  config : l.control.config ≡ l.fn.control.config;
  parts : done ++ g.J.Lender.rest l.journal ≡ g.J.Lender.rest l.fn.journal;
  entries : l.control.entries ≡ replayed l.fn.control.config done;
}

abbrev pub decreases-loop-entry : goal.decreases-loop-entry
decreases-loop-entry g l = length (g.J.Lender.rest l.journal)
