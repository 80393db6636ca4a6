use Rattle.std.proofs.Common.{◌≡◌, ℕ, ◌≤◌, ◌+◌, ◌-◌, ◌++◌, drop, length, vec_capacity, vec_len}
use Rattle.control_core.specs.Recording.{records_by}
use Rattle.control_core.proofs.recording.append_missed.Given as goal

-- The records so far, and those of the rest, are all, and there is room for the rest.
abbrev pub invariant-loop : goal.invariant-loop
invariant-loop l = record {
  told : (next : ℕ) → l.items.items ++ records_by l.id next 0 (drop l.counter l.events) ≡ l.fn.items.items ++ records_by l.id next 0 l.events;
  room : vec_len l.items + (length l.events - l.counter) ≤ vec_capacity l.items;
}
