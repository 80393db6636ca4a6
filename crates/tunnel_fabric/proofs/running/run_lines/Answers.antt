use Rattle.std.{proofs.Common.rules, proofs.Common.◌≡◌, proofs.Common.length, proofs.Common.drop, proofs.Common.sym, proofs.Common.subst, proofs.Common.ap, proofs.Common.◌∙◌, specs.List.All}
use Rattle.tunnel_fabric.{proofs.Fronts.run_is, proofs.Fronts.short_all, proofs.Fronts.taken_front, specs.Sending.IsFabricRun, specs.Sending.IsShortReply, specs.Sending.RanFabric}
use Rattle.tunnel_fabric.specs.Stepping.{RanFront, ran}
use Rattle.tunnel_fabric.proofs.running.run_lines.Goals as goal

pub returns-clause-ran : goal.returns-clause-ran
returns-clause-ran c =
    let front : RanFront c.args.script.now (length c.args.script.now.lines) c.run_all.new.devices c.run_all.new.replies = search rules in
    let size : c.in_ok-devices.devices.len ≡ length c.run_all.new.devices = search rules in
    let written = taken_front c.in_ok-devices.devices.len c.run_all.new.devices (drop (length c.run_all.new.devices) c.in_ok-devices.devices.items) size in
    subst (λ r. IsFabricRun c.args.script.now r) (sym (c.new.ensures ∙ ap (λ ds. ran ds c.run_all.new.replies) written)) (run_is c.args.script.now c.run_all.new.devices c.run_all.new.replies front (search rules))

pub returns-clause-short : goal.returns-clause-short
returns-clause-short c =
    let front : RanFront c.args.script.now (length c.args.script.now.lines) c.run_all.new.devices c.run_all.new.replies = search rules in
    subst (λ (r : RanFabric). All IsShortReply r.replies) (sym c.new.ensures) (short_all c.run_all.new.replies front.short)
