use Rattle.std.proofs.Common.{◌≡◌, ◌-◌, ◌≤◌, length}
use Rattle.tunnel_fabric.{specs.FabricReading.devices_from, proofs.FabricLists.with_devices}
use Rattle.tunnel_fabric.proofs.devices.devices_at.Given as goal

abbrev pub invariant-loop : goal.invariant-loop
invariant-loop l = record {
  within : l.place ≤ length l.bytes;
  read : with_devices l.configs (devices_from (l.count - l.counter) l.bytes l.place) ≡ devices_from l.count l.bytes l.at;
}
