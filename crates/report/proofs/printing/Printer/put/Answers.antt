use Rattle.std.proofs.lemmas.List.{take-append-drop}
use Rattle.report.proofs.Parts.{prints_as, prints_then, prints_waiting}
use Rattle.report.proofs.printing.Printer.put.Goals as goal

pub returns-else-bytes-room : goal.returns-else-bytes-room
returns-else-bytes-room g c =
    prints_as (prints_then (prints_waiting _ _ _ _ _ c.store-else-bytes-room.ensures)
    (prints_then c.send.ensures.prints (prints_waiting _ _ _ _ _ c.store-else-bytes-room-2.ensures)))
    (rw (c.split_at.ensures.front, c.split_at.ensures.back) (take-append-drop _ _))
