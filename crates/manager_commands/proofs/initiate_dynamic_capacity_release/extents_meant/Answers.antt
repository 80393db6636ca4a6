use Rattle.std.proofs.Common.{◌≡◌, length, arith, ap, ◌∙◌}
use Rattle.release_core.specs.Removals.{by_tag_rule}
use Rattle.manager_commands.proofs.InitiateDynamicCapacityRelease.{few_tagged}
use Rattle.device_state.specs.{StateAfter.part_of, declared.parts.HostPart.HostPart}
use Rattle.manager_commands.proofs.initiate_dynamic_capacity_release.extents_meant.Goals as goal

pub returns-then-flags-eq0-clause-few : goal.returns-then-flags-eq0-clause-few
returns-then-flags-eq0-clause-few c =
    let own : length c.accepted-accepted.result.now.extents ≡ length (part_of c.args.state.now c.args.host).lists.accepted = ap length c.accepted-accepted.ensures ∙ ap (λ (p : HostPart). length p.lists.accepted) c.part.ensures in
    few_tagged (by_tag_rule c.accepted-accepted.result.now.extents c.args.request.now.tag) c.args.request.now.tag c.accepted-accepted.result.now.extents c.by_tag.result (omega (arith, own, c.requires.few)) c.by_tag.ensures
