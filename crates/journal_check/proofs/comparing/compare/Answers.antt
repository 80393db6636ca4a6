use Rattle.journal_check.proofs.PartingLaws.{part_cut, part_whole}
use Rattle.journal_check.proofs.comparing.compare.Goals as goal

pub returns-in-Ok : goal.returns-in-Ok
returns-in-Ok c =
    rw (c.agreed.ensures.count, c.has_agreed.ensures)
    (part_whole c.args.text.now _ c.render.new.sink (rw (c.new-sink.ensures, c.control.ensures.config, c.journal-journal.ensures.value) at c.in-Ok.ensures.whole) c.agreed.ensures.parted)

pub returns-in-Err : goal.returns-in-Err
returns-in-Err c =
    rw c.agreed-in-Err.ensures.count
    (part_cut c.args.text.now _ c.in-Err.ensures.front.0 c.render.new.sink (rw (c.new-sink.ensures, c.control.ensures.config, c.journal-journal.ensures.value) at c.in-Err.ensures.front.1)
    (rw c.new-sink.ensures at c.in-Err.ensures.failed) c.agreed-in-Err.ensures.parted)
