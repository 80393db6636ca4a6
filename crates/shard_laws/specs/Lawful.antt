-- The whole journal of a device with shards.
use Rattle.std.specs.Prelude.{◌≡◌, ℕ, ◌≤◌, false, List, [], ◌∷◌, length, All}
use mathlib.Core.Option.{some}
use lib.ListN.{get_elem?}
use Rattle.device_rules.specs.Legal.{Legal}
use Rattle.journal_core.specs.{declared.entries.Entry.Entry, Entries.Each, Entries.is_control, Merging.Numbered, Merging.Rising, Merging.merged}
use Rattle.region_config.specs.Configurations.{Configuration}
use Rattle.ruled_cells.specs.Stamps.{IsControlLog}
use Rattle.shard_laws.specs.{Belonging.shard_in, Right.AccessMeets}

-- The entries are loads and stores of shard k, by rising stamps, whose numbers are at most that of the control's last
-- entry, and whose counts are at least 1. Each meets what stands before it in the merge of the control and this shard.
pub record IsShardLog (c : Configuration) (control : List Entry) (k : ℕ) (entries : List Entry) : Type 0 where
  pub access : All (λ (e : Entry). is_control e.act ≡ false) entries
  pub here : All (λ (e : Entry). shard_in c e ≡ k) entries
  pub low : All (λ (e : Entry). e.stamp.number ≤ length control) entries
  pub counted : All (λ (e : Entry). 1 ≤ e.stamp.count) entries
  pub rising : Rising entries
  pub meets : Each (AccessMeets c) (merged control (entries ∷ []))

abbrev pub AreShardLogs : Configuration → List Entry → List (List Entry) → Type 0
AreShardLogs c control shards = (k : ℕ) (entries : List Entry) → get_elem? shards k ≡ some entries → IsShardLog c control k entries

-- Where the commands and scrubs are legal by themselves, and the loads and stores of each shard are right beside them
-- alone, all of them, in the order of their stamps, are one legal and numbered journal.
abbrev pub MergesLegally : Configuration → List Entry → List (List Entry) → Type 0
MergesLegally c control shards = IsControlLog control → Legal c control → AreShardLogs c control shards →
    Legal c (merged control shards) × Numbered (merged control shards)
