use Rattle.std.proofs.Common.{◌≡◌, ◌∙◌, [], Err, ap, subst, sym}
use Rattle.extent_list.specs.dcd_codes.specs.{Rules.code_of, declared.refusals.Refusal.Refusal, declared.rules.Rule.Rule}
use Rattle.control_core.specs.{device_rules.specs.Answers.response, host_commands.specs.HostMessages.IsDrafted}
use Rattle.device_plain.{specs.Alone.DoesAlone, proofs.AloneCommands.command_refused, proofs.AloneCommands.does_enacted}
use Rattle.isolation_laws.specs.declared.items.SoloReply.{SoloReply}
use Rattle.journal_core.specs.declared.acts.{Act.Act, Reply.Reply}
use Rattle.device_plain.proofs.alone.Alone.command.Goals as goal

pub returns-in-Ok : goal.returns-in-Ok
returns-in-Ok c =
    does_enacted c.args.config.now c.args.host c.args.request.now c.args.self.now c.enact.new.self c.in-Ok.draft c.enact.result c.enact.ensures.reply c.enact.ensures.changed
    (λ v word was. c.in-Ok.ensures v was.present_is was.lists_are was.log_is)

pub returns-in-Err-Broken : goal.returns-in-Err-Broken
returns-in-Err-Broken c =
    let reply_is : c.refused.result ≡ response c.args.request.now (code_of c.in-Err-Broken.rule) [] = c.refused.ensures ∙ ap (λ (r : Rule). response c.args.request.now (code_of r) []) c.in-Err-Broken.rule-is in
    subst (λ (reply : Reply). DoesAlone c.args.config.now c.args.host (Act.Command c.args.request.now) c.args.self.now c.drop_held.new.self (SoloReply.Said reply)) (sym reply_is)
    (command_refused c.args.config.now c.args.host c.args.request.now c.args.self.now c.drop_held.new.self c.drop_held.ensures c.in-Err-Broken.rule
    (λ v word was. subst (λ (r : Refusal). IsDrafted c.args.config.now c.args.host v c.args.request.now (Err r)) c.in-Err-Broken.field-0-is
    (c.in-Err-Broken.ensures v was.present_is was.lists_are was.log_is)))
