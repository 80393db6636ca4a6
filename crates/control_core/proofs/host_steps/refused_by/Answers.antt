use Rattle.std.proofs.Common.{◌∙◌, ap}
use Rattle.extent_list.specs.HostLists.{Lists}
use Rattle.host_commands.specs.HeldLists.{unheld_by}
use Rattle.manager_commands.specs.device_state.specs.declared.parts.HostPart.{HostPart}
use Rattle.control_core.proofs.Decisions.{refused_host}
use Rattle.control_core.proofs.host_steps.refused_by.Goals as goal

pub returns : goal.returns
returns c = λ before legal kept is.
    let cfg = c.args.config.now in
    let h = c.args.host in
    let q = c.args.request.now in
    let lists = ap (λ (p : HostPart). p.lists) c.part.ensures ∙ (kept.parts h c.requires.host).lists_are in
    refused_host cfg before h q c.args.rule.now is c.refused-reply.result c.in_ok-effects.effects c.refused-reply.ensures
    (c.in_ok-effects.ensures ∙ ap (λ (l : Lists). unheld_by h l q.opcode) lists)
