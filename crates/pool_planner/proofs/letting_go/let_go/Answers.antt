use Rattle.std.{specs.Prelude.flat_map, proofs.Common.◌++◌}
use Rattle.region_config.specs.Granules.{regions_of}
use Rattle.journal_core.specs.Entries.{effects}
use Rattle.plan_rules.specs.Listing.{clearing, refusals, removal}
use Rattle.pool_planner.proofs.Taking.{takes_then, takes_then_ok}
use Rattle.pool_planner.proofs.letting_go.let_go.Goals as goal

pub returns : goal.returns
returns c =
    let h = c.args.host in
    let cfg = c.args.control.now.config in
    let past = effects c.args.control.now.entries in
    takes_then_ok c.empty_regions.result c.args.trial.now c.refuse_offers.new.trial c.empty_regions.new.trial (clearing h past ++ refusals h past) (flat_map (removal cfg h past) (regions_of cfg))
    (takes_then c.in_ok-clear_log.ensures c.in_ok-refuse_offers.ensures) c.empty_regions.ensures
