use Rattle.journal_core.specs.Entries.{effects}
use Rattle.plan_rules.specs.{Listing.give_back_surplus, Planning.no_demand}
use Rattle.pool_planner.proofs.Taking.{takes_more}
use Rattle.pool_planner.proofs.losing.all_give_back.Goals as goal

pub loop-i-preserved : goal.loop-i-preserved
loop-i-preserved c =
    takes_more (give_back_surplus c.args.control.now.config (effects c.args.control.now.entries)) c.args.demands.now c.loop-i.i no_demand c.args.trial.now c.loop-i.trial c.give_back.new.trial
    c.loop-i-test.true c.loop-i.invariant c.in_ok-give_back.ensures
