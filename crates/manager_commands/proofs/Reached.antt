-- What the state says of the device that it is a state of.
use Rattle.std.proofs.Common.{◌≡◌, ℕ, ◌+◌, ◌<◌, ◌≤◌, List, length, sym, ap, subst, ◌∙◌, arith}
use Rattle.std.{proofs.lemmas.List.length-map, proofs.lemmas.List.length-append, proofs.lemmas.List.Concat.length-flat_map, proofs.lemmas.List.FromFn.length-enumerate_from, specs.List.enumerate_from}
use Rattle.std.specs.Prelude.{◌++◌, flat_map}
use Rattle.event_records.specs.dcd_base.specs.declared.{ids.HostId.HostId, capacity.Extent.Extent}
use Rattle.extent_list.specs.{ExtentLists.count_in, HostLists.Lists, HostLists.extent_total}
use Rattle.extent_list.specs.media_map.specs.region_config.{proofs.PresentBlocks.first_granule-with_blocks, proofs.PresentBlocks.region_spec-with_blocks, specs.Configurations.Configuration}
use Rattle.extent_list.specs.media_map.specs.region_config.specs.{Granules.first_granule, Granules.granule_total, Granules.region_spec, Granules.with_blocks, Soundness.IsSound}
use Rattle.journal_core.specs.{Entries.effects, declared.entries.Entry.Entry, declared.outcome.Effect.Effect}
use Rattle.tag_refs.specs.declared.entries.TagEntry.{TagEntry}
use Rattle.device_state.specs.{StateAfter.IsStateAfter, StateAfter.IsReached, StateAfter.part_of, declared.state.State.State, device_rules.proofs.LegalSound.legal_is_sound}
use Rattle.device_state.specs.device_rules.specs.{Hosts.accepted_of, Hosts.block_of, Hosts.offers_of, Legal.Legal, Pictures.picture_of, Standing.Stands, Views.view_of}
use Rattle.manager_commands.{proofs.CountedTags.few_tags, specs.SetDcRegionConfiguration.LogsAreOf}

-- there are as many regions with other blocks
pub blocks_long : (c : Configuration) (b : ℕ → ℕ) → length (with_blocks c b).regions ≡ length c.regions
blocks_long c b = length-map (enumerate_from 0 c.regions) (λ spec. record spec.1 { block = b spec.0 }) ∙ length-enumerate_from 0 c.regions

module _ (c : Configuration) (journal : List Entry) (s : State) (kept : IsStateAfter c journal s) where
  pub hosts_kept : s.present.hosts ≡ c.hosts
  hosts_kept = ap (λ (d : Configuration). d.hosts) kept.present_is

  pub regions_kept : length s.present.regions ≡ length c.regions
  regions_kept = ap (λ (d : Configuration). length d.regions) kept.present_is ∙ blocks_long c (λ r. block_of c r (effects journal))

  pub region_kept : (r : ℕ) → r < length c.regions → region_spec s.present r ≡ record (region_spec c r) { block = block_of c r (effects journal) }
  region_kept r known = ap (λ (d : Configuration). region_spec d r) kept.present_is ∙ region_spec-with_blocks c (λ k. block_of c k (effects journal)) r known

  pub first_kept : (r : ℕ) → first_granule s.present r ≡ first_granule c r
  first_kept r = ap (λ (d : Configuration). first_granule d r) kept.present_is ∙ first_granule-with_blocks c (λ k. block_of c k (effects journal)) r

  pub total_kept : granule_total s.present ≡ granule_total c
  total_kept = ap (first_granule s.present) regions_kept ∙ first_kept (length c.regions)

  -- the logs are those of the hosts' views
  pub logs_kept : LogsAreOf s (λ h. view_of c h journal)
  logs_kept h known = (kept.parts h (omega (arith, known, hosts_kept))).log_is

-- a legal journal stands
pub stands_by : (c : Configuration) → IsSound c → (journal : List Entry) → Legal c journal → Stands c (picture_of c (effects journal))
stands_by c sound journal legal = (legal_is_sound c sound journal legal).stands

module _ (c : Configuration) (s : State) (reached : IsReached c s) where
  pub stands : Stands c (picture_of c (effects reached.journal))
  stands = stands_by c reached.sound reached.journal reached.legal

  pub host_count : length s.hosts.items ≡ s.present.hosts
  host_count = reached.kept.host_count ∙ sym (hosts_kept c reached.journal s reached.kept)

  pub hosts_known : s.present.hosts ≡ c.hosts
  hosts_known = hosts_kept c reached.journal s reached.kept

  pub regions_known : length s.present.regions ≡ length c.regions
  regions_known = regions_kept c reached.journal s reached.kept

  pub states_count : length s.granules.states ≡ granule_total s.present
  states_count = reached.kept.granule_count ∙ sym (total_kept c reached.journal s reached.kept)

  -- a host has so many extents at most
  pub few_extents : (h : HostId) → h < c.hosts → extent_total (part_of s h).lists ≤ 64
  few_extents h known =
      let past : List Effect = effects reached.journal in
      let long : length (accepted_of c h past ++ flat_map (λ xs. xs) (offers_of h past)) ≡ length (accepted_of c h past) + count_in (offers_of h past) =
      length-append (accepted_of c h past) (flat_map (λ xs. xs) (offers_of h past)) ∙ ap (λ n. length (accepted_of c h past) + n) (length-flat_map (λ (xs : List Extent). xs) (offers_of h past)) in
      subst (λ (l : Lists). extent_total l ≤ 64) (sym (reached.kept.parts h known).lists_are) (omega (arith, long, stands.few h))

  -- and there are so many open tags at most
  pub few_entries : length s.tags.entries ≤ 4096
  few_entries =
      omega (arith, ap length reached.kept.tags_are.tags_are, length-map s.tags.entries (λ (e : TagEntry). e.tag), few_tags c reached.sound (picture_of c (effects reached.journal)) stands, reached.sound.granules)
