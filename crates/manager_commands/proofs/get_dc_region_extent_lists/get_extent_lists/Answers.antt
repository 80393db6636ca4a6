use Rattle.std.proofs.{Common.◌≡◌, Common.◌<◌, Common.arith, Common.ap, Common.length, Common.◌∙◌, Math.Facts.Fits-of_lt}
use Rattle.extent_list.specs.HostLists.{Lists}
use Rattle.device_state.specs.{device_rules.specs.Views.view_of, declared.parts.HostPart.HostPart}
use Rattle.manager_commands.proofs.{Drafting.payload_alone, Reached.few_extents, Reached.hosts_known, Rows.both_kept, Rows.kept_rule, Rows.not_below, Rows.not_up_to}
use Rattle.manager_commands.proofs.get_dc_region_extent_lists.get_extent_lists.Goals as goal

pub overflow_cast-total : goal.overflow_cast-total
overflow_cast-total c =
    let known : c.args.host < c.args.config.now.hosts = omega (arith, hosts_known c.args.config.now c.args.state.now c.requires.reached, c.hosts.ensures.value, c.from.ensures, c.if-host-from.false) in
    Fits-of_lt (omega (arith, c.len-total.ensures, ap length c.accepted.ensures, ap (λ (p : HostPart). length p.lists.accepted) c.part.ensures, few_extents c.args.config.now c.args.state.now c.requires.reached c.args.host known))

pub payload_of-requires-clause-few : goal.payload_of-requires-clause-few
payload_of-requires-clause-few c =
    few_extents c.args.config.now c.args.state.now c.requires.reached c.args.host (omega (arith, hosts_known c.args.config.now c.args.state.now c.requires.reached, c.hosts.ensures.value, c.from.ensures, c.if-host-from.false))

pub returns : goal.returns
returns c journal legal kept =
    let cfg = c.args.config.now in
    let known : c.args.host < cfg.hosts = omega (arith, hosts_known cfg c.args.state.now c.requires.reached, c.hosts.ensures.value, c.from.ensures, c.if-host-from.false) in
    let v = view_of cfg c.args.host journal in
    let part = kept.parts c.args.host known in
    let total : c.len-total.result ≡ length v.accepted =
    c.len-total.ensures ∙ ap length c.accepted.ensures ∙ ap (λ (p : HostPart). length p.lists.accepted) c.part.ensures ∙ ap (λ (l : Lists). length l.accepted) part.lists_are in (
      both_kept _ _ (kept_rule _ _ (not_up_to cfg.hosts c.args.host known)) (kept_rule _ _ (not_below (length v.accepted) c.args.first (omega (arith, total, c.if-first-total.false)))),
      payload_alone _ _ c.only.result c.only.ensures (c.in_ok-payload_of.ensures v part.lists_are),
    )
