use Rattle.std.proofs.Common.{subst}
use Rattle.region_config.specs.Configurations.{Configuration}
use Rattle.device_plain.specs.device_rules.specs.Legal.{Legal}
use Rattle.pool_planner.proofs.PlanEnds.{plan_leaves, plan_of_room, plan_succeeds}
use Rattle.pool_planner.proofs.planning.plan.Goals as goal

pub returns-clause-succeeds : goal.returns-clause-succeeds
returns-clause-succeeds c = plan_succeeds c.args.config.now c.args.control.now.entries c.args.demands.now c.list_or_fault.result c.list_or_fault.ensures

pub returns-clause-meets : goal.returns-clause-meets
returns-clause-meets c =
    let cfg = c.args.config.now in
    let journal = c.args.control.now.entries in
    let legal : Legal cfg journal = subst (λ (d : Configuration). Legal d journal) c.requires.made c.entries-entries.ensures.legal in
    plan_leaves cfg journal c.args.demands.now c.list_or_fault.result (c.law_meets.ensures cfg c.hosts-hosts.ensures.sound journal legal) c.list_or_fault.ensures

pub returns-clause-of_room : goal.returns-clause-of_room
returns-clause-of_room c =
    let cfg = c.args.config.now in
    let journal = c.args.control.now.entries in
    let legal : Legal cfg journal = subst (λ (d : Configuration). Legal d journal) c.requires.made c.entries-entries.ensures.legal in
    plan_of_room cfg journal c.args.demands.now c.list_or_fault.result (c.law_of_room.ensures cfg c.hosts-hosts.ensures.sound journal legal) c.list_or_fault.ensures
