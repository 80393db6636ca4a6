use Rattle.std.proofs.Common.{take}
use Rattle.device_plain.specs.Acting.{TellsAlone}
use Rattle.device_plain.proofs.alone.Alone.change.Given as goal

abbrev pub invariant-loop-i : goal.invariant-loop-i
invariant-loop-i l = TellsAlone l.host (take l.i l.changes) l.fn.self l.self
