use Rattle.journal_core.specs.Entries.{effects}
use Rattle.plan_rules.specs.Listing.{let_go}
use Rattle.pool_planner.proofs.Taking.{takes_more}
use Rattle.pool_planner.proofs.losing.all_let_go.Goals as goal

pub loop-i-preserved : goal.loop-i-preserved
loop-i-preserved c =
    takes_more (let_go c.args.control.now.config (effects c.args.control.now.entries)) c.args.dead.now c.loop-i.i 0 c.args.trial.now c.loop-i.trial c.let_go.new.trial
    c.loop-i-test.true c.loop-i.invariant c.in_ok-let_go.ensures
