use Rattle.std.proofs.Common.{◌≤◌, subst, sym}
use Rattle.extent_list.specs.HostLists.{extent_total}
use Rattle.manager_commands.{proofs.FewExtents.few_extents, specs.device_state.specs.declared.parts.HostPart.HostPart}
use Rattle.control_core.proofs.host_steps.host_step.Goals as goal

pub host_draft-drafted-requires-clause-few : goal.host_draft-drafted-requires-clause-few
host_draft-drafted-requires-clause-few c =
    subst (λ (p : HostPart). extent_total p.lists ≤ 64) (sym c.part-part.ensures) (few_extents c.args.config.now c.args.state.now c.requires.reached c.args.host c.requires.host)
