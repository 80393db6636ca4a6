use Rattle.std.proofs.Common.{◌≡◌, ◌*◌, ◌≤◌, take}
use Rattle.host_driver.specs.Driving.{bytes_of}
use Rattle.host_driver.proofs.tables.bytes_of.Given as goal

abbrev pub invariant-loop-extent : goal.invariant-loop-extent
invariant-loop-extent l = record {
  summed : l.bytes ≡ bytes_of (take l.extent-index l.extents);
  few : l.bytes ≤ l.extent-index * 18446744073709551615;
}
