use Rattle.tunnel_fabric.proofs.Answering.{answers_command}
use Rattle.tunnel_fabric.proofs.stepping.command.Goals as goal

pub returns-clause-answers : goal.returns-clause-answers
returns-clause-answers c =
    answers_command c.args.device.now c.step.new.self _ c.args.line c.args.act.now c.in_ok-reply.reply c.in_ok-reply.ensures.entered c.journal-journal.ensures.legal c.journal-journal.ensures.short
