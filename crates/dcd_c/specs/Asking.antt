-- What the library tells of a device without changing it.
use Rattle.std.specs.Prelude.{◌≡◌, ℕ, ◌<◌, ◌≤◌, ◌^◌, ◌%◌, List, length, sum_by, Option, Some, None, Result, Ok, Err}
use Rattle.dcd_base.specs.declared.{capacity.Extent.Extent, steps.LogId.LogId}
use Rattle.region_config.specs.{Granules.granule_total, declared.region_spec.RegionSpec.RegionSpec}
use Rattle.journal_core.specs.{Entries.effects, declared.entries.Entry.Entry}
use Rattle.device_plain.specs.Lives.{ByEveryLife, Living}
use Rattle.device_plain.specs.device_rules.specs.Counts.{dirty_count, extent_count, free_count, granules_held, missed_of, records_of}
use Rattle.device_plain.specs.device_rules.specs.Hosts.{accepted_of, offers_of}
use Rattle.dcd_c.specs.{Statuses.status_of_call, declared.faults.Fault.Fault, declared.sessions.Session.Session, declared.asking.HostState.HostState, declared.asking.MemoryState.MemoryState}

-- the bytes of extents, in the 64 bits of a number
abbrev pub bytes_of_extents : List Extent → ℕ
bytes_of_extents extents = sum_by (λ x. x.length) extents % 2 ^ 64

-- the bytes of regions, in the 64 bits of a number
abbrev pub bytes_of_regions : List RegionSpec → ℕ
bytes_of_regions regions = sum_by (λ r. r.length) regions % 2 ^ 64

-- What is told of a host is what the journal says.
pub record TellsHostState (d : Living) (host : ℕ) (s : HostState) (life : List Entry) : Type 0 where
  pub size : s.size ≡ 40
  pub extents : s.extents ≡ extent_count d.config host (effects life)
  pub granules : s.granules ≡ granules_held d.config host (effects life)
  pub held : s.bytes ≡ bytes_of_extents (accepted_of d.config host (effects life))
  pub offers : s.offers ≡ length (offers_of host (effects life))
  pub records : s.records ≡ length (records_of (LogId.Host host) (effects life))
  pub missed : s.missed ≡ missed_of (LogId.Host host) (effects life)

-- What is told of the memory and of the Fabric Manager's log is what the journal says.
pub record TellsMemoryState (d : Living) (s : MemoryState) (life : List Entry) : Type 0 where
  pub size : s.size ≡ 32
  pub hosts : s.hosts ≡ d.config.hosts
  pub regions : s.regions ≡ length d.config.regions
  pub granules : s.granules ≡ granule_total d.config
  pub held : s.bytes ≡ bytes_of_regions d.config.regions
  pub free : s.free ≡ free_count d.config (effects life)
  pub dirty : s.dirty ≡ dirty_count d.config (effects life)
  pub records : s.records ≡ length (records_of LogId.Manager (effects life))
  pub missed : s.missed ≡ missed_of LogId.Manager (effects life)

-- What asking for a host answers, by every journal that leads to the device.
abbrev pub AsksHost : ℕ → Living → Result HostState Fault → Type 0
AsksHost host d (Ok s) = (host < d.config.hosts) × ByEveryLife d (TellsHostState d host s)
AsksHost host d (Err Fault.NoActor) = d.config.hosts ≤ host
AsksHost host d (Err fault) = ⊥

abbrev pub AsksMemory : Living → Result MemoryState Fault → Type 0
AsksMemory d (Ok s) = ByEveryLife d (TellsMemoryState d s)
AsksMemory d (Err fault) = ⊥

-- The same of a place.
abbrev pub AsksPlace : {X : Type 0} → (Living → Result X Fault → Type 0) → Option Session → Result X Fault → Type 0
AsksPlace P (Some s) outcome = P s.device outcome
AsksPlace P None outcome = outcome ≡ Err Fault.Closed

-- what stands at the pointer: the answer, or what was there
abbrev pub answer_or : {X : Type 0} → X → Result X Fault → X
answer_or was (Ok x) = x
answer_or was (Err fault) = was

-- The status tells an outcome of which P holds, and what is at the pointer is told by it.
pub record TellsState (X : Type 0) (status : ℕ) (was is : X) (P : Result X Fault → Type 0) : Type 0 where
  pub outcome : Result X Fault
  pub is_status : status ≡ status_of_call outcome
  pub is_answer : is ≡ answer_or was outcome
  pub holds : P outcome
