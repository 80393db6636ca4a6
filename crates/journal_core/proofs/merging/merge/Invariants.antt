use Rattle.std.{proofs.Common.◌≡◌, proofs.Common.◌++◌, proofs.Common.take, specs.Prelude.flat_map}
use Rattle.journal_core.proofs.merging.merge.Given as goal

abbrev pub invariant-loop-shard : goal.invariant-loop-shard
invariant-loop-shard l = l.entries.items ≡ l.control ++ flat_map (λ entries. entries) (take l.shard-index l.shards)
