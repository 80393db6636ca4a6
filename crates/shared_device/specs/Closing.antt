-- What is left of a device once all its passes came back.
use Rattle.std.specs.Prelude.{◌≡◌, ℕ, ◌<◌, List, length, filter}
use mathlib.Core.Option.{some}
use lib.ListN.{get_elem?}
use Rattle.control_core.specs.device_rules.specs.Legal.{Exclusive, Legal}
use Rattle.block_shard.specs.journal_core.specs.{Entries.is_control, Merging.Numbered, Merging.calls_of, Merging.merged, declared.entries.Entry.Entry}
use Rattle.block_shard.specs.ruled_cells.specs.Calls.{seats_of}
use Rattle.region_config.specs.Configurations.{Configuration}
use Rattle.shared_device.specs.{declared.pass.Pass.Pass, declared.shared.Shared.Shared, Passing.IsOneOf, Passing.pass_actor, Passing.pass_calls, Passing.pass_number}

-- these are all passes of the device
pub record AreAllPasses (s : Shared) (passes : List Pass) : Type 0 where
  pub some_pass : 0 < length passes
  pub of : (k : ℕ) (p : Pass) → get_elem? passes k ≡ some p → IsOneOf s p
  pub each : (i : ℕ) → i < seats_of s.cells → (k : ℕ) × (p : Pass) × (get_elem? passes k ≡ some p) × (pass_number p ≡ i)

-- the entries with the number of the pass are its calls, in order, and have its actor
pub record HasCalls (journal : List Entry) (p : Pass) : Type 0 where
  pub calls : calls_of (pass_number p) journal ≡ pass_calls p
  pub actor : (k : ℕ) (e : Entry) → get_elem? journal k ≡ some e → e.pass ≡ pass_number p → e.actor ≡ pass_actor p

-- The journal of the device: its commands and scrubs, and the loads and stores of each shard.
pub record IsClosed (c : Configuration) (seats : ℕ) (passes : List Pass) (control : List Entry) (shards : List (List Entry)) : Type 0 where
  pub legal : Legal c (merged control shards)
  pub exclusive : Exclusive c (merged control shards)
  pub numbered : Numbered (merged control shards)
  pub commands : filter (λ (e : Entry). is_control e.act) (merged control shards) ≡ control
  pub each : (k : ℕ) (p : Pass) → get_elem? passes k ≡ some p → HasCalls (merged control shards) p
  -- there is no other entry
  pub no_others : (k : ℕ) (e : Entry) → get_elem? (merged control shards) k ≡ some e → e.pass < seats
