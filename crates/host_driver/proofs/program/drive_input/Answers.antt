use Rattle.std.proofs.Common.{rules}
use Rattle.host_driver.proofs.Endings.{refused_decides}
use Rattle.host_driver.proofs.program.drive_input.Goals as goal

pub returns-in-Err : goal.returns-in-Err
returns-in-Err c = record {
  decides = refused_decides c.args.choice c.args.input.now c.in-Err.fault c.requires (c.in-Err.ensures.cases (search rules));
  printable = search rules;
}
