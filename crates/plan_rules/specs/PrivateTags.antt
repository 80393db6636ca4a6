-- Tags of the hosts' extents.
use Rattle.extent_list.specs.ExtentLists.{real_tags}
use Rattle.dcd_base.specs.{Limits.tags_supported, declared.capacity.Extent.Extent, declared.ids.HostId.HostId, Words.has_tag}
use Rattle.std.specs.{Prelude.IsFalse, Prelude.List, Prelude.◌≤◌, Prelude.length, List.Contains}
use Rattle.region_config.specs.{Configurations.Configuration, Granules.region_spec}
use Rattle.media_map.specs.Places.{region_at}
use Rattle.journal_core.specs.{Entries.effects, declared.entries.Entry.Entry}
use Rattle.isolation_laws.specs.device_rules.specs.{Tags.open_tags, Views.extents_in, Views.view_of}

-- An extent that a host has accepted or is offered in a region that is not shareable has a tag that is not open.
abbrev pub PrivateTagsClosed : Configuration → List Entry → Type 0
PrivateTagsClosed c journal = (h : HostId) (x : Extent) → Contains (extents_in (view_of c h journal)) x →
    IsFalse (region_spec c (region_at c h x.start)).shareable → IsFalse (has_tag (open_tags c (effects journal)) x.tag)

-- A host's extents, accepted and offered, have no more tags than are supported.
abbrev pub HostsTagsFew : Configuration → List Entry → Type 0
HostsTagsFew c journal = (h : HostId) → length (real_tags (extents_in (view_of c h journal))) ≤ tags_supported
