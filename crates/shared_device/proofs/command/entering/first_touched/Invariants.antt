use Rattle.std.proofs.Common.{◌-◌, ◌≤◌}
use Rattle.shared_device.specs.Entering.{AreApart}
use Rattle.shared_device.proofs.command.entering.first_touched.Given as goal

-- Those before are not touched.
abbrev pub invariant-loop-at : goal.invariant-loop-at
invariant-loop-at l = record {
  from : l.index ≤ l.at;
  until : l.at ≤ 16;
  apart : AreApart l.index l.at l.plan.entry;
}

abbrev pub decreases-loop-at : goal.decreases-loop-at
decreases-loop-at l = 16 - l.at
