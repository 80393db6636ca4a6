use Rattle.std.{proofs.Common.◌≡◌, specs.List.range_with_len}
use Rattle.shared_device.proofs.ActorLists.{lanes_of}
use Rattle.shared_device.proofs.actors.actors_of.Given as goal

abbrev pub invariant-loop-host : goal.invariant-loop-host
invariant-loop-host l = l.actors.items ≡ lanes_of l.lanes (range_with_len 0 l.host)
