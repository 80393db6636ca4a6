-- The merge of a legal journal of commands and scrubs with what the shards hold is legal and numbered.
use Rattle.std.proofs.Common.{List}
use Rattle.journal_core.specs.declared.entries.Entry.{Entry}
use Rattle.region_config.specs.Configurations.{Configuration}
use Rattle.shard_laws.{specs.Lawful.MergesLegally, proofs.LegalMerge.merged_legal, proofs.NumberedMerge.merged_numbered}

pub merges_legally : (c : Configuration) (control : List Entry) (shards : List (List Entry)) → MergesLegally c control shards
merges_legally c control shards log legal parts = (merged_legal c control shards log parts legal, merged_numbered c control shards log parts)
