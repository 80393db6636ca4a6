use Rattle.std.{proofs.Common.◌≡◌, proofs.Common.length, specs.List.list_any}
use Rattle.shard_laws.specs.Belonging.{touches_own}
use Rattle.block_shard.proofs.touching.touches.Given as goal

abbrev pub invariant-loop-effect : goal.invariant-loop-effect
invariant-loop-effect l = list_any (touches_own l.index) l.left ≡ list_any (touches_own l.index) l.entry.effects

abbrev pub decreases-loop-effect : goal.decreases-loop-effect
decreases-loop-effect l = length l.left
