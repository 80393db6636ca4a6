use Rattle.report.{specs.Texts.granules_line, proofs.Parts.prints_then}
use Rattle.report.proofs.state_lines.write_granules_line.Goals as goal

pub returns : goal.returns
unfolding granules_line
returns g c =
    let free = rw (c.from.ensures, c.free.ensures) at c.write_counted.ensures in
    let dirty = rw (c.from-2.ensures, c.dirty.ensures) at c.write_counted-2.ensures in
    prints_then c.put.ensures (prints_then free (prints_then dirty c.end_line.ensures))
