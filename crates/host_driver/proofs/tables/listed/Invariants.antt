use Rattle.std.proofs.Common.{◌≡◌, map, take}
use Rattle.host_driver.specs.Driving.{bare}
use Rattle.host_driver.proofs.tables.listed.Given as goal

abbrev pub invariant-loop-extent : goal.invariant-loop-extent
invariant-loop-extent l = l.list ≡ map bare (take l.extent-index l.extents)
