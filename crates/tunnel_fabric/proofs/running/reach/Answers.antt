use Rattle.std.proofs.Common.{subst}
use Rattle.dcd_base.specs.declared.steps.Actor.{Actor}
use Rattle.journal_core.specs.declared.acts.{Act.Act, Reply.Reply}
use Rattle.tunnel_fabric.{specs.Stepping.StepsOne, specs.Tunnels.inner_of, proofs.Fronts.reached_by}
use Rattle.tunnel_fabric.proofs.running.reach.Goals as goal

pub returns : goal.returns
returns c =
    let s = c.in_ok-response.response in
    reached_by c.args.number c.args.outer.now c.args.devices.now c.answer_one.new.devices c.in_ok-response.response c.wrap.result c.requires.0
    (subst (λ d. StepsOne c.args.devices.now c.answer_one.new.devices d c.args.number Actor.Manager (Act.Command (inner_of c.args.outer.now)) (Reply.Answer c.in_ok-response.response)) c.requires.1
    (subst (λ q. StepsOne c.args.devices.now c.answer_one.new.devices c.args.device c.args.number Actor.Manager (Act.Command q) (Reply.Answer c.in_ok-response.response)) c.requires.2 c.in_ok-response.ensures.entered))
    c.in_ok-response.ensures.short c.wrap.ensures
