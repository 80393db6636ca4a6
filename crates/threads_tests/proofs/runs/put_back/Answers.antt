use Rattle.std.proofs.Common.{List, suc}
use Rattle.journal_core.specs.declared.entries.Entry.{Entry}
use Rattle.script_runner.specs.shared_device.specs.ruled_cells.specs.Seats.{turns_of}
use Rattle.threads_tests.{specs.Tally.ledger_reads, proofs.TallySteps.may_put_back, proofs.TallySteps.same_view, proofs.TallySteps.same_cell}
use Rattle.threads_tests.proofs.runs.put_back.Goals as goal

pub give-requires-clause-may : goal.give-requires-clause-may
give-requires-clause-may c = (c.args.counter, c.requires.turn, may_put_back _ _ _ _ _ c.args.counter c.requires.idle)

pub returns-clause-view : goal.returns-clause-view
returns-clause-view c =
    let told = c.give.ensures.told in
    same_view {F = List Entry} ledger_reads (suc c.args.index) _ _ told.0 c.args.counter c.requires.idle (same_cell (turns_of c.args.seat.now) (suc c.args.index) _ _ told.1 c.requires.turn) told.2
