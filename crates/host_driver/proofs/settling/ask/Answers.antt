use Rattle.std.{proofs.Common.◌≡◌, proofs.Common.ap, proofs.Common.subst, proofs.Common.sym, proofs.Common.◌∙◌, specs.Prelude.IsTrue, proofs.lemmas.Bool.lt-ltb}
use Rattle.dcd_base.specs.declared.steps.Actor.{Actor}
use Rattle.device_plain.specs.Devices.{Enters}
use Rattle.journal_core.specs.{Entries.fits, declared.acts.Act.Act}
use Rattle.report.specs.script_codec.specs.Covering.{pass_of}
use Rattle.host_driver.{specs.Standing.Standing, specs.Standing.next_fault, specs.Standing.taking, specs.Standing.took_fault, proofs.InTurns.answers, proofs.InTurns.asks, proofs.InTurns.takes_it}
use Rattle.host_driver.proofs.settling.ask.Goals as goal

pub next_request-requires : goal.next_request-requires
next_request-requires c = ap next_fault c.requires.turns.standing

pub step_act-requires : goal.step_act-requires
step_act-requires c =
    subst (λ h. IsTrue (fits c.args.device.now.config.hosts (Actor.Host h) (Act.Command c.in_ok-request.request)))
    (sym (c.host.ensures ∙ ap (λ (k : Standing). k.host) c.in_ok-request.ensures.out))
    (lt-ltb c.args.driver.now.host c.args.device.now.config.hosts c.requires.turns.known)

pub take_response-requires : goal.take_response-requires
take_response-requires c =
    let host_is : c.host.result ≡ c.args.driver.now.host = c.host.ensures ∙ ap (λ (k : Standing). k.host) c.in_ok-request.ensures.out in
    let entered = subst (λ h. Enters c.args.device.now c.step_act.new.device (pass_of c.args.device.now.config.hosts 1 (Actor.Host h) 0) 0 (Actor.Host h) (Act.Command c.in_ok-request.request) c.in_ok-reply.reply)
    host_is c.in_ok-reply.ensures.entered in
    ap (λ k. took_fault k c.in-Answer.response) c.in_ok-request.ensures.out
    ∙ takes_it c.args.device.now c.step_act.new.device c.args.driver.now c.requires.turns c.in_ok-reply.ensures.sound c.in_ok-request.request c.in_ok-request.ensures.request c.in_ok-reply.reply
    entered c.in_ok-reply.ensures.spelled c.in-Answer.response c.in-Answer.is

pub returns : goal.returns
returns c =
    let host_is : c.host.result ≡ c.args.driver.now.host = c.host.ensures ∙ ap (λ (k : Standing). k.host) c.in_ok-request.ensures.out in
    let entered = subst (λ h. Enters c.args.device.now c.step_act.new.device (pass_of c.args.device.now.config.hosts 1 (Actor.Host h) 0) 0 (Actor.Host h) (Act.Command c.in_ok-request.request) c.in_ok-reply.reply)
    host_is c.in_ok-reply.ensures.entered in
    asks c.args.device.now c.step_act.new.device c.args.driver.now c.requires.turns c.in_ok-reply.ensures.sound c.in_ok-request.request c.in_ok-request.ensures.request c.in_ok-reply.reply
    entered c.in_ok-reply.ensures.spelled c.requires.busy c.in-Answer.response c.in-Answer.is c.take_response.new.driver
    (c.in_ok-take_response-in-Answer.ensures ∙ ap (λ k. taking k c.in-Answer.response) c.in_ok-request.ensures.out)

-- its reply is an answer
pub unreachable-requires : goal.unreachable-requires
unreachable-requires c =
    let host_is : c.host.result ≡ c.args.driver.now.host = c.host.ensures ∙ ap (λ (k : Standing). k.host) c.in_ok-request.ensures.out in
    let entered = subst (λ h. Enters c.args.device.now c.step_act.new.device (pass_of c.args.device.now.config.hosts 1 (Actor.Host h) 0) 0 (Actor.Host h) (Act.Command c.in_ok-request.request) c.in_ok-reply.reply)
    host_is c.in_ok-reply.ensures.entered in
    let found = answers c.args.device.now c.step_act.new.device c.args.driver.now c.requires.turns c.in_ok-reply.ensures.sound c.in_ok-request.request c.in_ok-request.ensures.request c.in_ok-reply.reply
    entered c.in_ok-reply.ensures.spelled in
    c.in_default.not-Answer found.0 found.1
