use Rattle.std.proofs.{Common.◌≡◌, Common.◌<◌, Common.arith, Common.length, Common.sym, Common.◌∙◌, lemmas.Bool.le-leb}
use Rattle.device_state.specs.device_rules.specs.Views.{view_of}
use Rattle.manager_commands.proofs.{Drafting.payload_alone, Reached.few_extents, Reached.host_count, Reached.hosts_known, Reached.regions_known}
use Rattle.manager_commands.proofs.Rows.{both_kept, broken_rule, first_kept, kept_rule, not_up_to}
use Rattle.manager_commands.proofs.get_host_dc_region_configuration.get_regions.Goals as goal

pub payload_of-requires-clause-parts : goal.payload_of-requires-clause-parts
payload_of-requires-clause-parts c = host_count c.args.config.now c.args.state.now c.requires.reached

pub payload_of-requires-clause-few : goal.payload_of-requires-clause-few
payload_of-requires-clause-few c =
    few_extents c.args.config.now c.args.state.now c.requires.reached c.args.host (omega (arith, hosts_known c.args.config.now c.args.state.now c.requires.reached, c.hosts.ensures.value, c.from.ensures, c.if-host-from.false))

pub returns-then-first-regions : goal.returns-then-first-regions
returns-then-first-regions c journal legal kept =
    let cfg = c.args.config.now in
    let known : c.args.host < cfg.hosts = omega (arith, hosts_known cfg c.args.state.now c.requires.reached, c.hosts.ensures.value, c.from.ensures, c.if-host-from.false) in
    let regions : length cfg.regions ≡ c.regions.result = sym (regions_known cfg c.args.state.now c.requires.reached) ∙ sym c.regions.ensures.value in
    first_kept _ _ _ (kept_rule _ _ (not_up_to cfg.hosts c.args.host known)) (broken_rule _ _ (le-leb (length cfg.regions) c.args.first (omega (arith, regions, c.if-first-regions.true))))

pub returns : goal.returns
returns c journal legal kept =
    let cfg = c.args.config.now in
    let known : c.args.host < cfg.hosts = omega (arith, hosts_known cfg c.args.state.now c.requires.reached, c.hosts.ensures.value, c.from.ensures, c.if-host-from.false) in
    let v = view_of cfg c.args.host journal in (
      both_kept _ _ (kept_rule _ _ (not_up_to cfg.hosts c.args.host known)) (kept_rule _ _ (not_up_to (length cfg.regions) c.args.first (omega (arith, regions_known cfg c.args.state.now c.requires.reached, c.regions.ensures.value, c.if-first-regions.false)))),
      payload_alone _ _ c.only.result c.only.ensures (c.in_ok-payload_of.ensures cfg v kept.present_is (kept.parts c.args.host known).lists_are),
    )
