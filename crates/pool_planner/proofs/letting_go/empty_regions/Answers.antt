use Rattle.journal_core.specs.Entries.{effects}
use Rattle.plan_rules.specs.Listing.{removal}
use Rattle.pool_planner.proofs.Taking.{takes_next}
use Rattle.pool_planner.proofs.letting_go.empty_regions.Goals as goal

pub loop-region-preserved : goal.loop-region-preserved
loop-region-preserved c =
    takes_next (removal c.args.control.now.config c.args.host (effects c.args.control.now.entries)) c.loop-region.region c.args.trial.now c.loop-region.trial c.empty_region.new.trial
    c.loop-region.invariant c.in_ok-empty_region.ensures
