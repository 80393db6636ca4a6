use Rattle.script_text.proofs.WholeTexts.{parsed_is, parsed_only, parsed_says, parsed_writable}
use Rattle.script_text.proofs.parsing.parse.Goals as goal

pub returns-clause-parsed : goal.returns-clause-parsed
returns-clause-parsed c = parsed_is c.args.text.now c.of-lines.result c.script_of.result c.of-lines.ensures c.script_of.ensures

pub returns-clause-says : goal.returns-clause-says
returns-clause-says c = parsed_says c.args.text.now c.script_of.result (returns-clause-parsed c)

pub returns-clause-only : goal.returns-clause-only
returns-clause-only c = parsed_only c.args.text.now c.script_of.result (returns-clause-parsed c)

pub returns-clause-writable : goal.returns-clause-writable
returns-clause-writable c = parsed_writable c.args.text.now c.script_of.result (returns-clause-parsed c)
