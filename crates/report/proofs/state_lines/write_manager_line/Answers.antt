use Rattle.report.{specs.Texts.manager_line, proofs.Parts.prints_then}
use Rattle.report.proofs.state_lines.write_manager_line.Goals as goal

pub returns : goal.returns
unfolding manager_line
returns g c =
    let log = rw (c.from.ensures, c.records.ensures) at c.write_counted.ensures in
    let missed = rw (c.from-2.ensures, c.missed.ensures) at c.write_counted-2.ensures in
    prints_then c.put.ensures (prints_then log (prints_then missed c.end_line.ensures))
