use Rattle.std.{proofs.Common.◌≡◌, proofs.Common.◌++◌, proofs.Common.take, specs.Prelude.filter_map}
use Rattle.isolation_laws.specs.Solo.{block_item}
use Rattle.isolation_laws.proofs.deliveries.append_blocks.Given as goal

abbrev pub invariant-loop-i : goal.invariant-loop-i
invariant-loop-i l = l.items ≡ l.initial.items ++ filter_map block_item (take l.i l.effects)
