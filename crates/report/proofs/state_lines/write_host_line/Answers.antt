use Rattle.report.{specs.Texts.host_line, proofs.Parts.prints_then}
use Rattle.report.proofs.state_lines.write_host_line.Goals as goal

pub returns : goal.returns
unfolding host_line
returns g c =
    let extents = rw (c.from.ensures, c.extents.ensures) at c.write_counted.ensures in
    let granules = rw (c.from-2.ensures, c.granules_held.ensures) at c.write_counted-2.ensures in
    let log = rw (c.from-3.ensures, c.records.ensures) at c.write_counted-3.ensures in
    prints_then c.put.ensures (prints_then c.write_host.ensures
    (prints_then extents (prints_then granules (prints_then log c.end_line.ensures))))
