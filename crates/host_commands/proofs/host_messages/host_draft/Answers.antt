use Rattle.std.{proofs.Common.◌≡◌, proofs.Common.rules, specs.declared.result.Result.TheVariants.Ok}
use Rattle.cci_codec.specs.dcd_base.specs.declared.steps.LogId.{LogId}
use Rattle.host_payloads.specs.{HostPayloads.host_request, declared.requests.HostRequest.HostRequest}
use Rattle.device_commands.specs.device_rules.specs.EventCommands.{events_reply, log_named}
use Rattle.host_commands.proofs.HostDrafts.{message_drafted, only_drafts}
use Rattle.host_commands.proofs.host_messages.host_draft.Goals as goal

pub returns-in-Ok-GetEvents : goal.returns-in-Ok-GetEvents
returns-in-Ok-GetEvents c = λ v present shows own.
    let q = c.args.request.now in
    let number = c.in-Ok-GetEvents.number in
    let asked : host_request q.opcode q.payload ≡ Ok (HostRequest.GetEvents number) = search rules in
    message_drafted c.args.config.now c.args.host v q (HostRequest.GetEvents number) asked c.get_events.result
    (only_drafts c.args.config.now c.args.host v (events_reply (log_named number v.log)) _ c.get_events.result (c.get_events.ensures (LogId.Host c.args.host) v.log own))
