use Rattle.std.proofs.Common.{◌≡◌, drop}
use Rattle.journal_core.specs.Entries.{effects}
use Rattle.plan_rules.specs.Listing.{gaining}
use Rattle.pool_planner.specs.Trials.{GoesOnTo}
use Rattle.pool_planner.proofs.gaining.gain_all.Given as goal

abbrev pub invariant-loop-i : goal.invariant-loop-i
invariant-loop-i l = record {
  config : l.trial.control.config ≡ l.control.config;
  goes_on : GoesOnTo l.fn.trial l.trial (gaining l.control.config (effects l.control.entries) l.fn.trial.control.entries l.demands)
      (gaining l.control.config (effects l.control.entries) l.trial.control.entries (drop l.i l.demands));
}
