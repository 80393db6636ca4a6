use Rattle.std.proofs.Common.{take}
use Rattle.shard_laws.specs.Changing.{AreMadeIn}
use Rattle.block_shard.proofs.changing.make_all.Given as goal

abbrev pub invariant-loop-i : goal.invariant-loop-i
invariant-loop-i l = AreMadeIn l.index l.initial.memory l.memory (take l.i l.changes)
