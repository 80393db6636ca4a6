-- A device of two hosts, its passes, and what it leaves.
use Rattle.std.specs.Prelude.{◌≡◌, ℕ, ◌<◌, List, length, slice_index_or}
use Rattle.dcd_base.specs.declared.{ids.HostId.HostId, steps.Actor.Actor}
use Rattle.journal_core.specs.{declared.entries.Entry.Entry, Merging.AllRise}
use Rattle.region_config.specs.Configurations.{Configuration}
use Rattle.script_runner.specs.shared_device.specs.{ruled_cells.specs.Calls.seats_of, Closing.IsClosed, declared.pass.Pass.Pass, declared.shared.Shared.Shared, Passing.IsOneOf, Passing.pass_number}

abbrev pub hosts_at : Shared → ℕ
hosts_at s = s.config.hosts

-- the pass of this number
pub record IsPassAt (s : Shared) (k : ℕ) (p : Pass) : Type 0 where
  pub of : IsOneOf s p
  pub number : pass_number p ≡ k

-- all passes of the device, each at its number
pub record AreByNumber (s : Shared) (passes : List Pass) : Type 0 where
  pub seats : seats_of s.cells ≡ length passes
  pub some_pass : 0 < length passes
  pub each : (k : ℕ) (d : Pass) → k < length passes → IsPassAt s k (slice_index_or passes k d)

-- the actor is one of so many hosts
abbrev pub IsHostOf : ℕ → Actor → Type 0
IsHostOf hosts actor = (h : HostId) × (actor ≡ Actor.Host h) × (h < hosts)

-- what a device of two hosts leaves: its commands and scrubs, and the loads and stores of its sixteen shards
pub record AreRemains (c : Configuration) (control : List Entry) (shards : List (List Entry)) : Type 0 where
  pub hosts : c.hosts ≡ 2
  pub sixteen : length shards ≡ 16
  pub rise : AllRise shards
  pub closed : (seats : ℕ) × (passes : List Pass) × IsClosed c seats passes control shards
