-- Tags that have sixteen bytes, as all have that the device keeps.
use Rattle.std.specs.Prelude.{◌≡◌, ◌<◌, All, length}
use Rattle.cci_codec.specs.dcd_base.specs.declared.{capacity.Extent.Extent, capacity.Tag.Tag, ids.HostId.HostId}
use Rattle.event_records.specs.declared.events.Event.{Event}
use Rattle.fm_payloads.specs.declared.requests.FmRequest.{FmRequest}
use Rattle.tag_refs.specs.declared.entries.TagEntry.{TagEntry}
use Rattle.manager_commands.specs.device_state.specs.{StateAfter.part_of, declared.parts.HostPart.HostPart, declared.state.State.State}

-- The tag has sixteen bytes.
abbrev pub TagFits : Tag → Type 0
TagFits t = length t.0 ≡ 16

-- So has that of each accepted extent of a host, and of each record in its log.
pub record PartFits (part : HostPart) : Type 0 where
  pub accepted : All (λ (x : Extent). TagFits x.tag) part.lists.accepted
  pub records : All (λ (e : Event). TagFits e.extent.tag) part.log.records

-- So has that of each extent that a host has accepted, where there is this host.
abbrev pub AcceptedFit : State → HostId → Type 0
AcceptedFit s h = h < length s.hosts.items → All (λ (x : Extent). TagFits x.tag) (part_of s h).lists.accepted

-- So has each tag that a request of the manager reads.
abbrev pub RequestFits : State → FmRequest → Type 0
RequestFits s (FmRequest.GetEvents log) = All (λ (e : Event). TagFits e.extent.tag) s.manager.records
RequestFits s (FmRequest.GetExtentLists host count first) = AcceptedFit s host
RequestFits s (FmRequest.ListTags first count) = All (λ (e : TagEntry). TagFits e.tag) s.tags.entries
RequestFits s q = Unit {0}
