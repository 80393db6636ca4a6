use Rattle.std.proofs.Common.{refl}
use Rattle.report.proofs.Parts.{prints_cut, waits_are}
use Rattle.report.proofs.printing.Printer.send.Goals as goal

pub returns-in-Err-clause-prints : goal.returns-in-Err-clause-prints
returns-in-Err-clause-prints g c =
    prints_cut (waits_are c.self.inside.failed c.if-self.false c.self.view_is c.split_at.ensures.front) refl
    c.in-Err.ensures.front c.in-Err.ensures.failed c.in-Err.ensures.never_falls
