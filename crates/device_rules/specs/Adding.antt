-- The manager offers capacity to a host: 5604h.
use Rattle.extent_list.specs.{ExtentLists.real_tags, ExtentLists.has_extent_of, Listing.too_many_extents, dcd_codes.specs.Rules.◌breaks◌, dcd_codes.specs.declared.rules.Rule.Rule}
use Rattle.extent_list.specs.media_map.specs.{Places.extent_of, region_config.specs.Configurations.Configuration}
use Rattle.extent_list.specs.media_map.specs.region_config.specs.Granules.{first_granule, granule_size, region_granules, region_spec, with_blocks}
use Rattle.granule_map.specs.{Blocks.block_count, Choices.longest_run, Choices.passing}
use Rattle.selection.specs.Selections.{contiguous_runs, free_runs, is_free_block, prescribed_rule, too_few_free}
use Rattle.cci_codec.specs.dcd_base.specs.{Limits.tags_supported, Words.zero_tag, Words.has_tag, Words.is_zero_tag, Words.where_true, Words.◌or◌, declared.capacity.Extent.Extent}
use Rattle.cci_codec.specs.dcd_base.specs.declared.{capacity.Tag.Tag, ids.HostId.HostId, media.Run.Run, steps.LogId.LogId}
use Rattle.std.specs.Prelude.{ℕ, ◌+◌, ◌/◌, ◌%◌, Bool, ◌&&◌, ◌||◌, not, ◌==◌, nat_le, nat_lt, List, [], ◌∷◌, ◌++◌, length, map, Option, unwrap_or, if◌then◌else◌}
use Rattle.std.specs.List.{enumerate_from}
use Rattle.event_records.specs.declared.events.EventKind.{EventKind}
use Rattle.journal_core.specs.declared.outcome.Effect.{Effect}
use Rattle.device_rules.specs.{Hosts.block_of, Outcomes.log_full, Outcomes.Outcome, Outcomes.records_of_extents}
use Rattle.device_rules.specs.{Tags.last_offer, Tags.tag_region, Tags.tag_runs, Tags.is_live, Tags.open_tags, Tags.status, Tags.is_free, Views.View, Views.view_after, Views.extents_in}

-- each with the tag, and in a shareable region numbered from 1
abbrev pub with_tag : Bool → Tag → List Extent → List Extent
with_tag shareable tag xs =
    map (λ x. record x.1 { tag = tag; sequence = if shareable then x.0 else 0 }) (enumerate_from 1 xs)

-- the granules of a region, and how many of them a block has
abbrev pub area_of : Configuration → ℕ → Run
area_of c r = record { first = first_granule c r; count = region_granules c r }

abbrev pub per_block : Configuration → ℕ → ℕ
per_block c r = (region_spec c r).block / granule_size c r

-- runs of granules as extents of the host
abbrev pub extents_of : Configuration → HostId → List Run → List Extent
extents_of c h runs = map (λ run. extent_of c h run zero_tag 0) runs

-- what the policies 0 Free, 1 Contiguous, 2 Prescriptive and 3 Enable Shared Access choose
abbrev pub chosen : Configuration → (ℕ → Bool) → List Run → HostId → ℕ → ℕ → ℕ → List Extent → List Extent
chosen c free runs h policy r bytes list = let need = bytes / (region_spec c r).block in
    if policy == 0 then extents_of c h (free_runs free (area_of c r) (per_block c r) need)
    else if policy == 1 then extents_of c h (contiguous_runs free (area_of c r) (per_block c r) need)
    else if policy == 2 then list
    else extents_of c h runs

-- whether a granule is free now, and the configuration with the present blocks
abbrev pub is_free_now : Configuration → List Effect → ℕ → Bool
is_free_now c past g = is_free (status c g past)

abbrev pub present : Configuration → List Effect → Configuration
present c past = with_blocks c (λ r. block_of c r past)

-- the extents that a 5604h offers
abbrev pub offered : Configuration → List Effect → HostId → ℕ → ℕ → ℕ → Tag → List Extent → List Extent
offered c past h policy r bytes tag list =
    with_tag (region_spec c r).shareable tag (chosen (present c past) (is_free_now c past) (tag_runs c (last_offer tag past)) h policy r bytes list)

-- a live shareable tag of the region
abbrev pub is_open_in : Configuration → List Effect → ℕ → Tag → Bool
is_open_in c past r tag = has_tag (open_tags c past) tag && (unwrap_or (tag_region c (last_offer tag past)) 0 == r)

-- how many blocks are free, and the most of them that lie together
abbrev pub region_free_blocks : Configuration → (ℕ → Bool) → ℕ → ℕ
region_free_blocks c free r = length (passing (is_free_block free (area_of c r) (per_block c r)) (block_count (area_of c r) (per_block c r)))

abbrev pub region_longest_free : Configuration → (ℕ → Bool) → ℕ → ℕ
region_longest_free c free r = longest_run (is_free_block free (area_of c r) (per_block c r)) (block_count (area_of c r) (per_block c r))

-- the row of the policies Free and Contiguous
abbrev pub by_length_rule : Configuration → (ℕ → Bool) → ℕ → ℕ → ℕ → Option Rule
by_length_rule c free r policy bytes = let size = (region_spec c r).block in
    ((bytes == 0) || not (bytes % size == 0)) breaks Rule.BadLength bytes
    or too_few_free (bytes / size) (if policy == 0 then region_free_blocks c free r else region_longest_free c free r)

-- the host would have so many distinct tags
abbrev pub too_many_tags : ℕ → Option Rule
too_many_tags n = nat_lt tags_supported n breaks Rule.TooManyTags n

-- the row of 5604h
abbrev pub add_rule : Configuration → List Effect → (HostId → View) → ℕ → ℕ → ℕ → ℕ → Tag → List Extent → Option Rule
add_rule c past view_for h policy r bytes tag list =
    let v = view_for h in
    let new = offered c past h policy r bytes tag list in
    nat_le c.hosts h breaks Rule.NoSuchHost h
    or nat_lt 3 policy breaks Rule.NoSuchPolicy policy
    or nat_le (length c.regions) r breaks Rule.NoSuchRegion r
    or ((policy == 3) && not (region_spec c r).shareable) breaks Rule.NotShareable r
    or (is_zero_tag tag && (region_spec c r).shareable) breaks Rule.ZeroTag
    or (nat_le policy 2 && is_live c tag past) breaks Rule.TagInUse
    or ((policy == 3) && not (is_open_in c past r tag)) breaks Rule.NoSuchTag
    or ((policy == 3) && has_extent_of tag (extents_in v)) breaks Rule.AlreadyShared
    or where_true (nat_le policy 1) (by_length_rule (present c past) (is_free_now c past) r policy bytes)
    or where_true (policy == 2) (prescribed_rule (present c past) h (is_free_now c past) r list)
    or too_many_extents (length (extents_in v) + length new)
    or too_many_tags (length (real_tags (extents_in v ++ new)))
    or log_full h v.log (length new)

abbrev pub add_outcome : Configuration → List Effect → (HostId → View) → ℕ → ℕ → ℕ → ℕ → Tag → List Extent → Outcome
add_outcome c past view_for h policy r bytes tag list =
    let new = offered c past h policy r bytes tag list in
    let changes : List Effect = Effect.Offer h new ∷ [] in record {
      payload = [];
      changes = changes;
      tags = [];
      log_records = (LogId.Host h, records_of_extents h (view_after c h (view_for h) changes) EventKind.Add new) ∷ [];
    }
