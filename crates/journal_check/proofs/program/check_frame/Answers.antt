use Rattle.std.proofs.Common.{refl, rules}
use Rattle.journal_check.proofs.CheckEndings.{refused_frame}
use Rattle.journal_check.proofs.program.check_frame.Goals as goal

pub returns-in-Err : goal.returns-in-Err
returns-in-Err c = record {
  decides = (refused_frame c.args.input.now c.parts_of.result.0.now c.in-Err.fault c.requires c.parts_of.ensures.script (c.in-Err.ensures.cases (search rules)), refl);
  printable = search rules;
}
