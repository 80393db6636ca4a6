use Rattle.std.proofs.Common.{◌≡◌, ◌+◌, ◌-◌, ◌++◌, drop, length, vec_capacity, vec_len}
use Rattle.control_core.specs.Recording.{records_by}
use Rattle.control_core.proofs.recording.append_logged.Given as goal

-- The records so far, and those of the rest, are all.
abbrev pub invariant-loop-i : goal.invariant-loop-i
invariant-loop-i l = record {
  told : l.items.items ++ records_by l.id l.next (length l.events - l.i) (drop l.i l.events) ≡ l.fn.items.items ++ records_by l.id l.first (length l.events) l.events;
  len : vec_len l.items ≡ vec_len l.fn.items + l.i;
  capacity : vec_capacity l.items ≡ vec_capacity l.fn.items;
}
