use Rattle.report.{specs.Refusals.refused_at, proofs.Parts.prints_then}
use Rattle.report.proofs.refusals.write_refused_line.Goals as goal

pub returns : goal.returns
unfolding refused_at
returns g c = prints_then c.put.ensures (prints_then c.write_counted.ensures (prints_then c.write_counted-2.ensures c.end_line.ensures))
