use Rattle.block_shard.specs.ruled_cells.specs.Seats.{seat_view}
use Rattle.shared_device.proofs.EnteringSteps.{longer_by, may_note, noted_first}
use Rattle.shared_device.proofs.command.entering.note.Goals as goal

pub note-requires-clause-may : goal.note-requires-clause-may
note-requires-clause-may c =
    let r = c.requires in
    may_note c.args.cells.now c.args.seat.now c.args.control.now c.entered.new.cell c.args.plan r.of.1 r.may r.touched c.entered.ensures

pub returns-clause-view : goal.returns-clause-view
returns-clause-view c =
    let r = c.requires in
    let view = c.note.ensures.view in
    let longer = longer_by c.args.seat.now c.args.control.now c.entered.new.cell c.args.plan r.may c.entered.ensures in
    noted_first c.args.plan.entry r.may.taken.entries c.entered.new.cell (seat_view c.args.seat.now) (seat_view c.note.new.seat) longer view.0 view.1
