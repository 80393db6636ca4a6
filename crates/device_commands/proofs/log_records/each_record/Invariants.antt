use Rattle.std.proofs.Common.{◌≡◌, ◌++◌, ◌+◌, ◌≤◌, drop, length, vec_capacity, vec_len}
use Rattle.device_rules.specs.{Outcomes.records_of_extents, Views.View}
use Rattle.device_commands.specs.Drafts.{HasExtentsOf}
use Rattle.device_commands.proofs.log_records.each_record.Given as goal

-- The records so far, and those of the rest, are all, and there is room for the rest.
abbrev pub invariant-loop-i : goal.invariant-loop-i
invariant-loop-i l = record {
  told : (v : View) → HasExtentsOf v l.lists → l.events.items ++ records_of_extents l.fn.host v l.kind (drop l.i l.extents) ≡ records_of_extents l.fn.host v l.kind l.extents;
  room : vec_len l.events + length l.extents ≤ vec_capacity l.events + l.i;
}
