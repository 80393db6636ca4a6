use Rattle.std.proofs.Common.{◌≡◌, ◌==◌, ◌+◌, ◌^◌, ◌<◌, ap, arith, length, subst, sym, ◌∙◌}
use Rattle.std.{specs.Prelude.All, specs.List.filter, proofs.lemmas.List.Elements.All-filter}
use Rattle.dcd_base.specs.declared.capacity.Extent.{Extent}
use Rattle.region_config.specs.Soundness.{IsSound}
use Rattle.journal_core.specs.Entries.{effects}
use Rattle.device_plain.specs.device_rules.specs.Hosts.{accepted_of}
use Rattle.media_map.specs.Places.{region_at}
use Rattle.plan_rules.specs.Holding.{extents_in_region}
use Rattle.pool_planner.proofs.HeldBounds.{accepted_ends, accepted_few}
use Rattle.pool_planner.proofs.held.held_extents.Goals as goal

pub returns-clause-few : goal.returns-clause-few
returns-clause-few c =
    let control = c.args.control.now in
    let sound : IsSound control.config = subst IsSound c.first_config-config.ensures c.hosts-hosts.ensures.sound in
    omega (arith, c.in_ok-extents.ensures.few, ap length c.accepted.ensures, accepted_few control.config sound control.entries c.entries-entries.ensures.legal c.args.host)

pub returns-clause-ends : goal.returns-clause-ends
returns-clause-ends c =
    let control = c.args.control.now in
    let cfg = control.config in
    let h = c.args.host in
    let r = c.args.region in
    let sound : IsSound cfg = subst IsSound c.first_config-config.ensures c.hosts-hosts.ensures.sound in
    let those : c.in_ok-extents.extents ≡ extents_in_region cfg h r (effects control.entries) = c.in_ok-extents.ensures.those
    ∙ (λ i. filter (λ (x : Extent). region_at (c.first_config-config.ensures i) h x.start == r) (c.accepted.ensures i)) in
    subst (All (λ (x : Extent). x.start + x.length < 2 ^ 64)) (sym those)
    (All-filter (λ (x : Extent). region_at cfg h x.start == r) (λ (x : Extent). x.start + x.length < 2 ^ 64) (accepted_of cfg h (effects control.entries))
    (accepted_ends cfg sound control.entries c.entries-entries.ensures.legal h c.requires))
