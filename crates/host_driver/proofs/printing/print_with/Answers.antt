use Rattle.std.proofs.lemmas.Result.{err_from_is_err_and}
use Rattle.dcd_base.proofs.Passing.{passes_both, passes_front, risen_before}
use Rattle.host_driver.proofs.printing.print_with.Goals as goal

pub returns-clause-whole : goal.returns-clause-whole
returns-clause-whole g c = passes_both c.in_ok-print_journal.ensures.whole c.in_ok-write_all.ensures.whole

-- A write failed in the journal.
pub returns-in_err-print_journal-clause-front : goal.returns-in_err-print_journal-clause-front
returns-in_err-print_journal-clause-front g c =
    let p = err_from_is_err_and c.from_residual.result c.from_residual.ensures.1 in
    rw p.1 (passes_front c.args.lines.now c.in_err-print_journal.ensures.front.1)

-- A write failed behind it.
pub returns-in_err-write_all-clause-front : goal.returns-in_err-write_all-clause-front
returns-in_err-write_all-clause-front g c =
    let p = err_from_is_err_and c.from_residual-in_err-write_all.result c.from_residual-in_err-write_all.ensures.1 in
    let left = c.in_err-write_all.ensures.front in
    rw p.1 (left.0, passes_both c.in_ok-print_journal.ensures.whole left.1)

pub returns-in_err-write_all-clause-failed : goal.returns-in_err-write_all-clause-failed
returns-in_err-write_all-clause-failed g c =
    let p = err_from_is_err_and c.from_residual-in_err-write_all.result c.from_residual-in_err-write_all.ensures.1 in
    rw p.1 (risen_before c.print_journal.ensures.never_falls c.in_err-write_all.ensures.failed)
