-- Reading and setting the configuration: 4800h, 4801h, and 5600h to 5603h.
use Rattle.fm_payloads.specs.ManagerPayloads.{regions_head, info_payload, lists_head}
use Rattle.host_payloads.specs.{HostPayloads.configuration_payload, HostPayloads.region_bytes, HostPayloads.counts_bytes, HostPayloads.extents_payload, declared.views.Counts.Counts}
use Rattle.host_payloads.specs.declared.views.RegionView.{RegionView}
use Rattle.cci_codec.specs.dcd_base.specs.{Extents.extent_bytes, Limits.page_extents, Limits.extents_supported, Limits.tags_supported, Words.◌or◌, Words.flag_of, declared.ids.HostId.HostId}
use Rattle.cci_codec.specs.dcd_base.specs.declared.steps.LogId.{LogId}
use Rattle.device_rules.specs.{Outcomes.log_full, Outcomes.Outcome, Outcomes.record_for, Outcomes.no_extent, Tags.status, Tags.is_free, Tags.free_granules, Tags.dirty_granules}
use Rattle.device_rules.specs.Views.{generation_in, View, extents_available, tags_available}
use Rattle.std.specs.Prelude.{ℕ, ◌+◌, ◌*◌, min, Bool, false, not, ◌==◌, nat_le, nat_lt, List, [], ◌∷◌, ◌++◌, length, map, count_by, flat_map, take, drop, Option}
use Rattle.std.specs.List.{range_with_len}
use Rattle.extent_list.specs.{dcd_codes.specs.Rules.◌breaks◌, dcd_codes.specs.Rules.each_in, dcd_codes.specs.declared.rules.Rule.Rule, media_map.specs.region_config.specs.Configurations.Configuration}
use Rattle.extent_list.specs.media_map.specs.region_config.specs.Granules.{region_spec, regions_of, base_of, is_supported, region_granules, first_granule, granule_total, hosts_of}
use Rattle.extent_list.specs.media_map.specs.region_config.specs.declared.region_spec.RegionSpec.{RegionSpec}
use Rattle.event_records.specs.declared.events.EventKind.{EventKind}
use Rattle.journal_core.specs.declared.outcome.Effect.{Effect}

-- members from a place on, as many as asked and no more than fit
abbrev pub page : {X : Type 0} → ℕ → ℕ → List X → List X
page first count xs = take count (drop first xs)

abbrev pub past_end : ℕ → ℕ → Option Rule
past_end first total = nat_lt total first breaks Rule.PastEnd first total

abbrev pub no_such_region : Configuration → ℕ → Option Rule
no_such_region c r = nat_le (length c.regions) r breaks Rule.NoSuchRegion r

abbrev pub no_such_host : Configuration → ℕ → Option Rule
no_such_host c host = nat_le c.hosts host breaks Rule.NoSuchHost host

-- a region as the host sees it, with these flags
abbrev pub region_seen : Configuration → HostId → View → (RegionSpec → ℕ) → ℕ → RegionView
region_seen c h v flags r = let spec = region_spec c r in record {
  base = base_of c h r;
  decode_units = spec.decode_units;
  length = spec.length;
  block = v.block r;
  handle = spec.handle;
  flags = flags spec;
}

abbrev pub host_counts : View → Counts
host_counts v = record {
  extents = extents_supported;
  extents_available = extents_available v;
  tags = tags_supported;
  tags_available = tags_available v;
}

-- 4800h: bit 0 says that the region sanitizes
abbrev pub host_flags : RegionSpec → ℕ
host_flags spec = flag_of spec.sanitize

abbrev pub configuration_reply : Configuration → HostId → View → ℕ → ℕ → List ℕ
configuration_reply c h v count first =
    configuration_payload (length c.regions) (map (region_seen c h v host_flags) (page first count (regions_of c))) (host_counts v)

-- 4801h: fifty extents at most
abbrev pub extents_reply : View → ℕ → ℕ → List ℕ
extents_reply v count first = extents_payload (length v.accepted) (generation_in v) (page first (min count page_extents) v.accepted)

-- 5600h
abbrev pub info_reply : Configuration → List Effect → List ℕ
info_reply c past = info_payload c.hosts (granule_total c) (length (free_granules c past)) (length (dirty_granules c past)) (map (λ spec. spec.sizes) c.regions)

-- 5601h: bit 1 says that the region is shareable
abbrev pub manager_flags : RegionSpec → ℕ
manager_flags spec = flag_of spec.sanitize + 2 * flag_of spec.shareable

abbrev pub regions_rule : Configuration → ℕ → ℕ → Option Rule
regions_rule c host first = no_such_host c host or no_such_region c first

abbrev pub regions_reply : Configuration → (HostId → View) → ℕ → ℕ → ℕ → List ℕ
regions_reply c view_for h count first = let rs = page first count (regions_of c) in let v = view_for h in
    regions_head h (length c.regions) (length rs) ++ flat_map (λ r. region_bytes (region_seen c h v manager_flags r)) rs ++ counts_bytes (host_counts v)

-- 5603h: fifty extents at most
abbrev pub lists_rule : Configuration → (HostId → View) → ℕ → ℕ → Option Rule
lists_rule c view_for host first = no_such_host c host or past_end first (length (view_for host).accepted)

abbrev pub lists_reply : (HostId → View) → ℕ → ℕ → ℕ → List ℕ
lists_reply view_for host count first = let v = view_for host in let xs = page first (min count page_extents) v.accepted in
    lists_head host first (length xs) (length v.accepted) (generation_in v) ++ flat_map extent_bytes xs

-- 5602h
abbrev pub in_use : Configuration → List Effect → ℕ → ℕ
in_use c past r = count_by (λ g. not (is_free (status c g past))) (range_with_len (first_granule c r) (region_granules c r))

abbrev pub set_rule : Configuration → List Effect → (HostId → View) → ℕ → Bool → ℕ → Option Rule
set_rule c past view_for r sanitize size =
    no_such_region c r
    or not (is_supported (region_spec c r) size) breaks Rule.NotSupportedSize size
    or not (flag_of sanitize == flag_of (region_spec c r).sanitize) breaks Rule.SanitizeDiffers
    or nat_lt 0 (in_use c past r) breaks Rule.RegionInUse (in_use c past r)
    or each_in (hosts_of c) (λ before h. log_full h (view_for h).log 1)

-- each host is told, also where the size is the old one
abbrev pub set_outcome : Configuration → (HostId → View) → ℕ → ℕ → Outcome
set_outcome c view_for r size = record {
  payload = [];
  changes = Effect.Block r size ∷ [];
  tags = [];
  log_records = map (λ h. (LogId.Host h, record (record_for h (view_for h) EventKind.RegionUpdated false no_extent) { region = r } ∷ [])) (hosts_of c);
}
