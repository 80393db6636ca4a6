use Rattle.std.specs.{Prelude.take, List.AllByRecursion}
use Rattle.tunnel_fabric.specs.Stepping.{IsSoundDevice}
use Rattle.tunnel_fabric.proofs.stepping.are_sound.Given as goal

abbrev pub invariant-loop-device : goal.invariant-loop-device
invariant-loop-device l = AllByRecursion IsSoundDevice (take l.device-index l.devices)
