-- What giving back does: 4803h by the host, 5605h by the manager.
use Rattle.std.specs.Prelude.{ℕ, Bool, ◌&&◌, flat_map, not, ◌==◌, nat_le, nat_lt, List, [], ◌∷◌, ◌++◌, length, map, Option, if◌then◌else◌, bit_and}
use Rattle.cci_codec.specs.dcd_base.specs.{declared.ids.HostId.HostId, declared.capacity.Tag.Tag, declared.capacity.Extent.Extent, declared.media.Run.Run, declared.steps.LogId.LogId, Words.◌or◌}
use Rattle.extent_list.specs.{ExtentLists.tags_of, ExtentLists.marked, ExtentLists.count_in, dcd_codes.specs.Rules.◌breaks◌, dcd_codes.specs.declared.rules.Rule.Rule, media_map.specs.Places.run_of}
use Rattle.extent_list.specs.media_map.specs.region_config.specs.{Configurations.Configuration, Granules.with_blocks}
use Rattle.event_records.specs.declared.events.EventKind.{EventKind}
use Rattle.journal_core.specs.declared.outcome.{HeldKind.HeldKind, Effect.Effect}
use Rattle.device_rules.specs.{Views.View, Views.view_after, Outcomes.log_full, Outcomes.Outcome, Outcomes.records_of_extents, ResponseOutcomes.hold, ResponseOutcomes.unhold}
use Rattle.release_core.specs.Removals.{by_tag_rule, prescribed_removal_rule, extents_of_tag}

abbrev pub leaves : Configuration → HostId → List Extent → List Effect
leaves c h xs = map (λ x. Effect.Leave h (run_of c h x)) xs

abbrev pub give_back_changes : Configuration → HostId → List Extent → Bool → List Extent → List Effect
give_back_changes c h held more list =
    if more then hold h HeldKind.Releases list
    else unhold h HeldKind.Releases held ++ leaves c h (held ++ list)

abbrev pub give_back_outcome : Configuration → HostId → View → Bool → List Extent → Outcome
give_back_outcome c h v more list =
    let changes = give_back_changes c h v.releases more list in
    let going = map (marked v.accepted) (v.releases ++ list) in record {
      payload = [];
      changes = changes;
      tags = if more then [] else tags_of going;
      log_records = if more then [] else (LogId.Manager, records_of_extents h (view_after c h v changes) EventKind.Released going) ∷ [];
    }

-- the low four bits are the policy, bit 4 is force, bit 5 says to clean
abbrev pub policy_in : ℕ → ℕ
policy_in flags = bit_and flags 15

abbrev pub is_forced : ℕ → Bool
is_forced flags = not (bit_and flags 16 == 0)

abbrev pub is_cleaning : ℕ → Bool
is_cleaning flags = not (bit_and flags 32 == 0)

-- by force each extent leaves, and a cleaning removal soils its granules at once
abbrev pub soils : Bool → Run → List Effect
soils clean run = if clean then Effect.Soil run ∷ [] else []

abbrev pub removals : Configuration → HostId → Bool → List Extent → List Effect
removals c h clean xs = flat_map (λ x. Effect.Leave h (run_of c h x) ∷ soils clean (run_of c h x)) xs

-- the extents that it means: by tag, those that have it; else the listed ones
abbrev pub removed : List Extent → ℕ → Tag → List Extent → List Extent
removed accepted flags tag list =
    if policy_in flags == 0 then extents_of_tag tag accepted else map (marked accepted) list

abbrev pub remove_rule : Configuration → (HostId → View) → ℕ → ℕ → ℕ → Tag → List Extent → Option Rule
remove_rule c view_for h flags r tag list =
    let v = view_for h in let all = removed v.accepted flags tag list in
    nat_le c.hosts h breaks Rule.NoSuchHost h
    or (is_cleaning flags && not (is_forced flags)) breaks Rule.UnsupportedFlag
    or nat_lt 1 (policy_in flags) breaks Rule.NoSuchPolicy (policy_in flags)
    or (if policy_in flags == 0 then by_tag_rule v.accepted tag
    else prescribed_removal_rule (with_blocks c v.block) h v.accepted (count_in v.offers) r list (is_forced flags))
    or log_full h v.log (length all)

abbrev pub remove_outcome : Configuration → (HostId → View) → ℕ → ℕ → Tag → List Extent → Outcome
remove_outcome c view_for h flags tag list =
    let v = view_for h in
    let all = removed v.accepted flags tag list in
    let changes = if is_forced flags then removals c h (is_cleaning flags) all else [] in record {
      payload = [];
      changes = changes;
      tags = tags_of all;
      log_records = (LogId.Host h, records_of_extents h (view_after c h v changes) (if is_forced flags then EventKind.Forced else EventKind.Release) all) ∷ [];
    }
