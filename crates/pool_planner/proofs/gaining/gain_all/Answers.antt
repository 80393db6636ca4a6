use Rattle.std.proofs.Common.{◌∙◌}
use Rattle.journal_core.specs.Entries.{effects}
use Rattle.plan_rules.specs.{Listing.gaining, Planning.no_demand}
use Rattle.pool_planner.proofs.GainedInTurn.{goes_more}
use Rattle.pool_planner.proofs.gaining.gain_all.Goals as goal

pub loop-i-preserved : goal.loop-i-preserved
loop-i-preserved c =
    let control = c.args.control.now in
    let past = effects control.entries in
    record {
      config = c.in_ok-gain_one.ensures.config ∙ c.loop-i.invariant.config;
      goes_on = goes_more control.config past c.args.trial.now c.loop-i.trial c.gain_one.new.trial
          (gaining control.config past c.args.trial.now.control.entries c.args.demands.now) c.args.demands.now c.loop-i.i no_demand
          c.loop-i.invariant.config c.loop-i-test.true c.loop-i.invariant.goes_on c.in_ok-gain_one.ensures;
    }
