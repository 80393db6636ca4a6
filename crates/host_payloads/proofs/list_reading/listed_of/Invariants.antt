use Rattle.std.proofs.Common.{◌≡◌, ◌++◌, ◌*◌, ◌-◌, ◌≤◌, length, map}
use Rattle.event_records.specs.dcd_base.specs.Layouts.{pieces}
use Rattle.host_payloads.specs.HostPayloads.{listed_extent}
use Rattle.host_payloads.proofs.list_reading.listed_of.Given as goal

abbrev pub invariant-loop : goal.invariant-loop
invariant-loop l = record {
  enough : 24 * (l.count - l.counter) ≤ length l.rest;
  read : l.extents ++ map listed_extent (pieces 24 (l.count - l.counter) l.rest) ≡ map listed_extent (pieces 24 l.count l.bytes);
}
