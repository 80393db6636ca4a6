use Rattle.std.proofs.Common.{◌≡◌, ◌<◌, sym, ◌∙◌}
use Rattle.manager_commands.proofs.InitiateDynamicCapacityAdd.{drafts_offered, named_parts, row_choice, row_names, row_room, row_tag, runs_are_few, runs_are_runs}
use Rattle.manager_commands.proofs.{Reached.few_extents, Reached.states_count, Rows.made_of, Rows.passed_on}
use Rattle.manager_commands.specs.InitiateDynamicCapacityAdd.{DraftOffers, chosen_rule, offered_now, room_rule}
use Rattle.device_state.specs.{device_rules.specs.Adding.add_outcome, device_rules.specs.Adding.add_rule, device_rules.specs.Views.view_of, StateAfter.part_of}
use Rattle.device_commands.specs.Drafts.{Drafts}
use Rattle.journal_core.specs.Entries.{effects}
use Rattle.manager_commands.proofs.initiate_dynamic_capacity_add.add.Goals as goal

pub new_extents-requires-clause-runs : goal.new_extents-requires-clause-runs
new_extents-requires-clause-runs c =
    let q = c.requires.reached in
    runs_are_runs c.args.config.now q.sound q.journal q.legal c.args.state.now q.kept c.args.request.now.tag

pub new_extents-requires-clause-few_runs : goal.new_extents-requires-clause-few_runs
new_extents-requires-clause-few_runs c =
    let q = c.requires.reached in
    runs_are_few c.args.config.now q.sound q.journal q.legal c.args.state.now q.kept c.args.request.now.tag

pub new_extents-requires-clause-granules : goal.new_extents-requires-clause-granules
new_extents-requires-clause-granules c = states_count c.args.config.now c.args.state.now c.requires.reached

pub returns-in-Some : goal.returns-in-Some
returns-in-Some c journal legal kept =
    row_names c.args.config.now c.requires.reached.sound journal legal c.args.state.now kept c.args.request.now.host c.args.request.now.policy c.args.request.now.region c.args.request.now.length c.args.request.now.tag c.args.list.now c.in-Some.rule (sym c.target_rule.ensures ∙ c.in-Some.is)

pub returns-in-Some-tag_rule : goal.returns-in-Some-tag_rule
returns-in-Some-tag_rule c journal legal kept =
    row_tag c.args.config.now c.requires.reached.sound journal legal c.args.state.now kept c.args.request.now.host c.args.request.now.policy c.args.request.now.region c.args.request.now.length c.args.request.now.tag c.args.list.now (sym c.target_rule.ensures ∙ c.in_default.is)
    c.in-Some-tag_rule.rule (sym c.tag_rule.ensures ∙ c.in-Some-tag_rule.is)

pub offer_of-requires-clause-few : goal.offer_of-requires-clause-few
offer_of-requires-clause-few c =
    let q = c.requires.reached in
    few_extents c.args.config.now c.args.state.now q c.args.request.now.host
    (named_parts c.args.config.now q.sound q.journal q.legal c.args.state.now q.kept c.args.request.now.host c.args.request.now.policy c.args.request.now.region c.args.request.now.length c.args.request.now.tag c.args.list.now (sym c.target_rule.ensures ∙ c.in_default.is)).host

pub returns-in-Err : goal.returns-in-Err
returns-in-Err c journal legal kept =
    let cfg = c.args.config.now in
    let s = c.args.state.now in
    let v = view_of cfg c.args.request.now.host journal in
    passed_on (chosen_rule s c.args.request.now.host c.args.request.now.policy c.args.request.now.region c.args.request.now.length c.args.list.now)
    (add_rule cfg (effects journal) (λ k. view_of cfg k journal) c.args.request.now.host c.args.request.now.policy c.args.request.now.region c.args.request.now.length c.args.request.now.tag c.args.list.now)
    (λ new. new ≡ offered_now s c.args.request.now.host c.args.request.now.policy c.args.request.now.region c.args.request.now.length c.args.request.now.tag c.args.list.now)
    (λ d. Drafts cfg c.args.request.now.host v (add_outcome cfg (effects journal) (λ k. view_of cfg k journal) c.args.request.now.host c.args.request.now.policy c.args.request.now.region c.args.request.now.length c.args.request.now.tag c.args.list.now) d)
    c.in-Err.refusal
    (row_choice cfg c.requires.reached.sound journal legal s kept c.args.request.now.host c.args.request.now.policy c.args.request.now.region c.args.request.now.length c.args.request.now.tag c.args.list.now (sym c.target_rule.ensures ∙ c.in_default.is)
    c.regions-regions.ensures.sound (sym c.tag_rule.ensures ∙ c.in_default-tag_rule.is))
    c.in-Err.ensures.row

pub returns-in-Ok : goal.returns-in-Ok
returns-in-Ok c journal legal kept =
    let cfg = c.args.config.now in
    let s = c.args.state.now in
    let h = c.args.request.now.host in
    let v = view_of cfg h journal in
    let named = sym c.target_rule.ensures ∙ c.in_default.is in
    let tag_kept = sym c.tag_rule.ensures ∙ c.in_default-tag_rule.is in
    let known : h < cfg.hosts = (named_parts cfg c.requires.reached.sound journal legal s kept h c.args.request.now.policy c.args.request.now.region c.args.request.now.length c.args.request.now.tag c.args.list.now named).host in
    made_of (room_rule h (part_of s h).lists v.log c.in-Ok.extents)
    (add_rule cfg (effects journal) (λ k. view_of cfg k journal) h c.args.request.now.policy c.args.request.now.region c.args.request.now.length c.args.request.now.tag c.args.list.now)
    (DraftOffers h c.in-Ok.extents)
    (λ d. Drafts cfg h v (add_outcome cfg (effects journal) (λ k. view_of cfg k journal) h c.args.request.now.policy c.args.request.now.region c.args.request.now.length c.args.request.now.tag c.args.list.now) d)
    c.offer_of.result
    (row_room cfg c.requires.reached.sound journal legal s kept h c.args.request.now.policy c.args.request.now.region c.args.request.now.length c.args.request.now.tag c.args.list.now named c.regions-regions.ensures.sound tag_kept c.in-Ok.ensures.row.0 c.in-Ok.extents c.in-Ok.ensures.row.1)
    (drafts_offered cfg c.requires.reached.sound journal legal s kept h c.args.request.now.policy c.args.request.now.region c.args.request.now.length c.args.request.now.tag c.args.list.now named c.regions-regions.ensures.sound tag_kept c.in-Ok.extents c.in-Ok.ensures.row.1)
    (c.offer_of.ensures v.log (kept.parts h known).log_is)
