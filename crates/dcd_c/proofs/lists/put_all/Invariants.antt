use Rattle.std.proofs.Common.{◌≡◌, ◌*◌, drop, flat_map, length, take}
use Rattle.event_records.specs.Records.{record_bytes}
use Rattle.dcd_c.proofs.lists.put_all.Given as goal

abbrev pub invariant-loop-i : goal.invariant-loop-i
invariant-loop-i l = record {
  put : take (l.i * 128) l.room ≡ flat_map record_bytes (take l.i l.log.records);
  rest : drop (l.i * 128) l.room ≡ drop (l.i * 128) l.fn.room;
  size : length l.room ≡ length l.fn.room;
}
