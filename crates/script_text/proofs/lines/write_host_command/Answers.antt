use Rattle.std.proofs.{Common.◌∷◌, Common.◌++◌, Common.[], Common.sym, Common.◌∙◌, lemmas.Result.on_ok_weaker}
use Rattle.cci_codec.specs.Messages.{request_bytes}
use Rattle.text_lines.specs.{Layouts.command_line, Layouts.host_request_parts, Layouts.tag_part, Parts.Part}
use Rattle.script_text.{specs.LinePrinting.AddsLine, proofs.PrintedActs.host_named_printed, proofs.PrintedActs.host_told_printed}
use Rattle.script_text.proofs.lines.write_host_command.Goals as goal

pub returns-in-Some : goal.returns-in-Some
returns-in-Some c =
    on_ok_weaker c.write_host_named.result
    (λ (a : AddsLine c.args.out.now c.write_host_named.new.out (Part.ActorOf c.args.frame c.args.actor.now c.args.lane ∷ host_request_parts c.in-Some.request ++ tag_part c.args.message.now.tag ∷ [])).
    host_named_printed c.args.frame c.args.actor.now c.args.lane c.args.message.now c.in-Some.request
    (sym c.in_ok-request.ensures.value ∙ c.in-Some.is) (rw c.in-Some.is at c.in_ok-request.ensures.message) a)
    c.write_host_named.ensures

pub returns-in-None : goal.returns-in-None
returns-in-None c =
    on_ok_weaker c.write_command_line.result
    (λ (a : AddsLine c.args.out.now c.write_command_line.new.out (command_line c.args.frame c.args.actor.now c.args.lane (request_bytes c.args.message.now))).
    host_told_printed c.args.frame c.args.actor.now c.args.lane c.args.message.now (sym c.in_ok-request.ensures.value ∙ c.in-None.is) c.law_message_reads.ensures a)
    c.write_command_line.ensures
