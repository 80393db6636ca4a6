use Rattle.std.{proofs.Common.take, specs.Prelude.fold}
use Rattle.device_state.specs.Granules.{AreChanged}
use Rattle.device_rules.specs.GranuleCells.{ended_run}
use Rattle.device_state.proofs.granules.settle_all.Given as goal

abbrev pub invariant-loop-i : goal.invariant-loop-i
invariant-loop-i l = AreChanged (λ g cell. fold (ended_run g) cell (take l.i l.runs)) l.fn.granules l.granules
