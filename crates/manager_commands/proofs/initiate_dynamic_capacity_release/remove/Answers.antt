use Rattle.std.proofs.Common.{List, Option, arith, sym, subst}
use Rattle.event_records.specs.dcd_base.specs.declared.capacity.Extent.{Extent}
use Rattle.extent_list.specs.dcd_codes.specs.{Rules.ByRow, declared.rules.Rule.Rule}
use Rattle.device_commands.specs.Drafts.{Drafts}
use Rattle.device_state.specs.device_rules.specs.{ReleaseOutcomes.remove_rule, Views.view_of}
use Rattle.manager_commands.proofs.InitiateDynamicCapacityRelease.{chosen_host, meant_granular, removal_row}
use Rattle.manager_commands.{proofs.Reached.few_extents, proofs.Reached.hosts_known, specs.InitiateDynamicCapacityRelease.removal_outcome}
use Rattle.manager_commands.proofs.initiate_dynamic_capacity_release.remove.Goals as goal

pub extents_meant-requires-clause-few : goal.extents_meant-requires-clause-few
extents_meant-requires-clause-few c =
    few_extents c.args.config.now c.args.state.now c.requires.reached c.args.request.now.host
    (omega (arith, hosts_known c.args.config.now c.args.state.now c.requires.reached, chosen_host c.args.state.now.present.hosts c.args.request.now.host c.args.request.now.flags (sym c.in_default.ensures)))

pub removal_of-requires-clause-granular : goal.removal_of-requires-clause-granular
removal_of-requires-clause-granular c forced =
    meant_granular c.args.config.now c.args.state.now c.requires.reached c.args.request.now.host
    (omega (arith, hosts_known c.args.config.now c.args.state.now c.requires.reached, chosen_host c.args.state.now.present.hosts c.args.request.now.host c.args.request.now.flags (sym c.in_default.ensures)))
    c.args.request.now.flags c.args.request.now.region c.args.request.now.tag c.args.list.now c.in-Ok.leaving forced c.in-Ok.ensures.row.0 c.in-Ok.ensures.row.1

pub returns-in-Ok : goal.returns-in-Ok
returns-in-Ok c journal legal kept =
    let cfg = c.args.config.now in
    let v = view_of cfg c.args.request.now.host journal in
    let row = removal_row cfg c.args.state.now journal kept c.args.request.now.host c.args.request.now.flags c.args.request.now.region c.args.request.now.tag c.args.list.now c.in-Ok.leaving (sym c.in_default.ensures) c.in-Ok.ensures.row.0 c.in-Ok.ensures.row.1 in
    subst (λ (ys : List Extent). ByRow (remove_rule cfg (λ k. view_of cfg k journal) c.args.request.now.host c.args.request.now.flags c.args.request.now.region c.args.request.now.tag c.args.list.now) (λ d. Drafts cfg c.args.request.now.host v (removal_outcome cfg c.args.request.now.host v c.args.request.now.flags ys) d) c.removal_of.result) row.1
    (subst (λ (found : Option Rule). ByRow found (λ d. Drafts cfg c.args.request.now.host v (removal_outcome cfg c.args.request.now.host v c.args.request.now.flags c.in-Ok.leaving) d) c.removal_of.result) (sym row.0) (c.removal_of.ensures journal legal kept))
