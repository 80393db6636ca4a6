use Rattle.std.proofs.Common.{List, sym, subst}
use Rattle.journal_core.specs.declared.entries.Entry.{Entry}
use Rattle.threads_tests.{specs.Tally.IsIdle, specs.Tally.MayHaveAdded, specs.Tally.ledger_reads, proofs.TallySteps.idle_again, proofs.TallySteps.same_cell}
use Rattle.script_runner.specs.shared_device.{specs.ruled_cells.specs.Seats.seat_number, specs.ruled_cells.specs.Seats.seat_view, specs.ruled_cells.specs.Seats.turns_of, proofs.Turns.given_again}
use Rattle.threads_tests.proofs.runs.step.Goals as goal

pub returns-clause-idle : goal.returns-clause-idle
returns-clause-idle g c =
    let took = c.take-counter.ensures in
    let gave = c.give.ensures in
    let told = gave.told in
    let number = took.seat.number in
    let idle = subst (λ v. IsIdle (seat_number c.take-counter.new.seat) c.args.seen v) (sym took.view) (subst (λ n. IsIdle n c.args.seen (seat_view c.args.seat.now)) (sym number) c.requires.idle.1) in
    let done = subst (λ n. MayHaveAdded n c.args.seen c.take-counter.result c.add-counter.result.0 c.add-counter.result.1) c.number.ensures c.add-counter.ensures in
    let again = idle_again {F = List Entry} ledger_reads 0 (seat_number c.take-counter.new.seat) c.args.seen c.add-counter.result.1 _ _ told.0 c.take-counter.result c.add-counter.result.0 idle (same_cell (turns_of c.take-counter.new.seat) 1 _ _ told.1 took.turn.1) done told.2 in
    (given_again _ _ _ 1 _ c.requires.idle.0 took.turn.0 gave.turn, subst (λ n. IsIdle n c.add-counter.result.1 (seat_view c.give.new.seat)) (sym gave.seat.number) again.0)
