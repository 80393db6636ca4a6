use Rattle.std.proofs.Common.{sym}
use Rattle.script_runner.proofs.printing.print_merged_text.Goals as goal

pub returns-clause-front : goal.returns-clause-front
returns-clause-front g c = rw (sym c.lend_journal-journal.ensures.value) c.render.ensures.front
