use Rattle.std.proofs.lemmas.Bool.{eq-eqb, ne_eqb}
use Rattle.std.proofs.Common.{◌≡◌, ◌<◌, bit_and, not, arith, ap, false, true, sym, ◌∙◌}
use Rattle.device_state.specs.device_rules.specs.{Outcomes.log_full, ReleaseOutcomes.is_forced, Views.view_of}
use Rattle.manager_commands.proofs.{InitiateDynamicCapacityRelease.drafts_asked, InitiateDynamicCapacityRelease.drafts_taken, Reached.hosts_known}
use Rattle.manager_commands.proofs.initiate_dynamic_capacity_release.removal_of.Goals as goal

pub returns-in_ok-by_request : goal.returns-in_ok-by_request
returns-in_ok-by_request c journal legal kept =
    let cfg = c.args.config.now in
    let h = c.args.host in
    let known : h < cfg.hosts = omega (arith, hosts_known cfg c.args.state.now c.requires.reached, c.requires.host) in
    let v = view_of cfg h journal in
    let part = kept.parts h known in
    let asked : is_forced c.args.flags ≡ false = ap not (eq-eqb (bit_and c.args.flags 16) 0 c.if-flags-eq0.true) in (
      ap (log_full h v.log) (sym c.len.ensures) ∙ sym (c.log_full.ensures v.log part.log_is) ∙ c.in_default.is,
      drafts_asked cfg h v c.args.flags c.args.leaving.now c.in_ok-by_request.field-0 asked c.in_ok-by_request.ensures,
    )

pub returns-in_ok-by_force : goal.returns-in_ok-by_force
returns-in_ok-by_force c journal legal kept =
    let cfg = c.args.config.now in
    let h = c.args.host in
    let known : h < cfg.hosts = omega (arith, hosts_known cfg c.args.state.now c.requires.reached, c.requires.host) in
    let v = view_of cfg h journal in
    let part = kept.parts h known in
    let forced : is_forced c.args.flags ≡ true = ap not (ne_eqb (bit_and c.args.flags 16) 0 (λ e. omega (arith, e, c.if-flags-eq0.false))) in (
      ap (log_full h v.log) (sym c.len.ensures) ∙ sym (c.log_full.ensures v.log part.log_is) ∙ c.in_default.is,
      drafts_taken cfg h v c.args.flags c.args.leaving.now c.in_ok-by_force.field-0 forced c.in_ok-by_force.ensures,
    )
