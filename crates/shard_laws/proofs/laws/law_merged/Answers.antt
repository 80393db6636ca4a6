use Rattle.shard_laws.proofs.LawfulMerge.{merges_legally}
use Rattle.shard_laws.proofs.laws.law_merged.Goals as goal

pub returns : goal.returns
returns c = merges_legally
