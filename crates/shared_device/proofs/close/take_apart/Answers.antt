use Rattle.std.proofs.Common.{List, sym, subst}
use Rattle.block_shard.specs.journal_core.specs.{Merging.AllRise, declared.entries.Entry.Entry}
use Rattle.block_shard.specs.{ruled_cells.specs.Calls.AccountFor, ruled_cells.specs.Calls.AreAll, ruled_cells.specs.Calls.seats_of, shard_laws.specs.Right.stripe_reads}
use Rattle.shared_device.{proofs.ClosedJournal.about_device, proofs.ClosedJournal.are_all_seats, proofs.ClosedJournal.is_closed, proofs.ClosedJournal.lists_rise, specs.Closing.IsClosed}
use Rattle.shared_device.specs.Commanding.{commanding_reads}
use Rattle.shared_device.proofs.close.take_apart.Goals as goal

pub close_into-first-requires-clause-all : goal.close_into-first-requires-clause-all
close_into-first-requires-clause-all c = subst (AreAll c.args.shared.cells) (sym c.seats_in.ensures) (are_all_seats c.args.shared c.args.passes.items c.requires.all)

pub returns-clause-rise : goal.returns-clause-rise
returns-clause-rise c =
    subst AllRise (sym c.accesses_in.ensures) (lists_rise (about_device c.args.shared) c.close_into-first.result.0 c.close_into-first.result.1.items c.close_into-first.ensures.rest)

pub returns-clause-journal : goal.returns-clause-journal
returns-clause-journal c =
    let cells = c.close_into-first in
    let first = cells.result.0 in
    let row = cells.result.1.items in
    subst (λ (z : List Entry × List (List Entry)). IsClosed c.args.shared.config (seats_of c.args.shared.cells) c.args.passes.items z.0 z.1)
    (λ i. (sym c.control_in.ensures.1 i, sym c.accesses_in.ensures i))
    (is_closed c.args.shared c.args.passes.items first row c.hosts-hosts.ensures.sound c.requires.all cells.ensures.rest
    (subst (AccountFor commanding_reads stripe_reads first row) c.seats_in.ensures cells.ensures.calls) cells.ensures.no_others)
