use Rattle.script_runner.proofs.Decisions.{decides_of, printable_of}
use Rattle.script_runner.proofs.top.RunnerProgram.decide.Goals as goal

pub returns-clause-decides : goal.returns-clause-decides
returns-clause-decides g c = decides_of c.args.task c.args.input c.decide.result ((c.requires.able c.args.alloc c.args.task c.args.input c.requires.short).1 c.decide.result c.decide.ensures)

pub returns-clause-ready : goal.returns-clause-ready
returns-clause-ready g c = printable_of c.args.task c.args.input c.decide.result ((c.requires.able c.args.alloc c.args.task c.args.input c.requires.short).1 c.decide.result c.decide.ensures)
