use Rattle.std.proofs.Common.{◌≡◌, ◌<◌, ◌+◌, List, get_or, arith, ap, sym, ◌∙◌}
use Rattle.std.{specs.List.range_with_len, proofs.lemmas.List.FromFn.get_or-range_with_len, proofs.lemmas.List.FromFn.length-range_with_len}
use Rattle.event_records.specs.dcd_base.specs.declared.ids.HostId.{HostId}
use Rattle.extent_list.specs.dcd_codes.{proofs.RuleSteps.each_in_found, specs.Rules.each_in}
use Rattle.device_state.specs.device_rules.specs.Outcomes.{log_full}
use Rattle.manager_commands.proofs.{ListPages.from_zero, ListPages.take_range, Rows.each_in-push}
use Rattle.manager_commands.proofs.set_dc_region_configuration.first_full.Goals as goal

pub returns-in-Some : goal.returns-in-Some
returns-in-Some c view_for logs =
    let n = c.args.state.now.present.hosts in
    let i = c.loop-host.host in
    let below : i < n = omega (arith, c.loop-host-test.true, c.hosts-host-end.ensures.value) in
    let at : get_or (range_with_len 0 n) i 0 ≡ i = get_or-range_with_len 0 n i 0 below ∙ (let e : 0 + i ≡ i = omega arith in e) in
    sym (each_in_found (λ (before : List HostId) h. log_full h (view_for h).log 1) (range_with_len 0 n) i 0 c.in-Some.rule (omega (arith, below, length-range_with_len 0 n))
    (ap (λ hs. each_in hs (λ (before : List HostId) h. log_full h (view_for h).log 1)) (take_range i 0 n (omega (arith, below))) ∙ c.loop-host.invariant view_for logs)
    (ap (λ h. log_full h (view_for h).log 1) at ∙ sym (c.log_full.ensures (view_for i).log (logs i below)) ∙ c.in-Some.is))

pub loop-host-preserved : goal.loop-host-preserved
loop-host-preserved c view_for logs =
    let i = c.loop-host.host in
    let below : i < c.args.state.now.present.hosts = omega (arith, c.loop-host-test.true, c.hosts-host-end.ensures.value) in
    ap (λ hs. each_in hs (λ (before : List HostId) h. log_full h (view_for h).log 1)) (from_zero i)
    ∙ each_in-push (λ (before : List HostId) h. log_full h (view_for h).log 1) (range_with_len 0 i) i (c.loop-host.invariant view_for logs)
    ∙ sym (c.log_full.ensures (view_for i).log (logs i below)) ∙ c.in_default.is
