use Rattle.std.proofs.Common.{◌≡◌, ◌+◌, ◌*◌, ◌++◌, flat_map, take}
use Rattle.event_records.specs.Records.{record_bytes}
use Rattle.host_payloads.proofs.replies.put_records.Given as goal

abbrev pub invariant-loop-event : goal.invariant-loop-event
invariant-loop-event l = record {
  place : l.place ≡ l.at + 128 * l.event-index;
  put : take l.place l.out ≡ take l.at l.fn.out ++ flat_map record_bytes (take l.event-index l.events);
}
