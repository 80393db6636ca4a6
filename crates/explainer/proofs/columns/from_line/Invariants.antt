use Rattle.std.proofs.Common.{◌≡◌, ◌-◌}
use Rattle.explainer.specs.Columns.{lines_later}
use Rattle.explainer.proofs.columns.from_line.Given as goal

abbrev pub invariant-loop-before : goal.invariant-loop-before
invariant-loop-before l = lines_later l.before l.rest ≡ lines_later (l.line - 1) l.text

abbrev pub decreases-loop-before : goal.decreases-loop-before
decreases-loop-before l = l.before
