use Rattle.std.proofs.Common.{rules}
use Rattle.script_runner.proofs.Decisions.{fault_decides}
use Rattle.script_runner.proofs.texts.decide_input.Goals as goal

pub returns-in-Err : goal.returns-in-Err
returns-in-Err g c = record {
  decides = fault_decides c.args.mode c.args.input c.in-Err.fault c.requires (c.in-Err.ensures.fault (search rules));
  printable = search rules;
}
