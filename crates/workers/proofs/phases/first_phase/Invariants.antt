use Rattle.std.proofs.Common.{◌≡◌, ◌+◌, drop}
use Rattle.workers.specs.Phases.{phase_length}
use Rattle.workers.proofs.phases.first_phase.Given as goal

abbrev pub invariant-loop-line : goal.invariant-loop-line
invariant-loop-line l = (l.count ≡ l.line-index) × (phase_length l.lines ≡ l.line-index + phase_length (drop l.line-index l.lines))
