-- The manager's references, and its list of live tags: 5606h to 5608h.
use Rattle.std.specs.Prelude.{map, ℕ, ◌^◌, min, Bool, true, false, not, List, [], ◌∷◌, length, sum_by, Option, if◌then◌else◌}
use Rattle.cci_codec.specs.dcd_base.specs.{declared.tags.TagView.TagView, declared.ids.HostId.HostId, declared.capacity.Tag.Tag, Limits.page_tags, Words.has_tag}
use Rattle.extent_list.specs.{dcd_codes.specs.Rules.◌breaks◌, dcd_codes.specs.declared.rules.Rule.Rule, media_map.specs.region_config.specs.Configurations.Configuration}
use Rattle.extent_list.specs.media_map.specs.region_config.specs.Granules.{hosts_of}
use Rattle.journal_core.specs.declared.outcome.Effect.{Effect}
use Rattle.device_rules.specs.{Tags.is_referenced, Tags.is_accepted_by, Tags.is_offered_to, Tags.open_tags, Outcomes.Outcome, Settings.page, Settings.past_end}
use Rattle.fm_payloads.specs.ManagerPayloads.{tags_payload}

abbrev pub add_reference_rule : Configuration → List Effect → Tag → Option Rule
add_reference_rule c past tag = not (has_tag (open_tags c past) tag) breaks Rule.NoSuchTag

abbrev pub add_reference_outcome : List Effect → Tag → Outcome
add_reference_outcome past tag =
    record { payload = []; changes = if is_referenced tag past then [] else Effect.Ref tag true ∷ []; tags = []; log_records = [] }

abbrev pub remove_reference_rule : List Effect → Tag → Option Rule
remove_reference_rule past tag = not (is_referenced tag past) breaks Rule.NoReference

abbrev pub remove_reference_outcome : Tag → Outcome
remove_reference_outcome tag = record { payload = []; changes = Effect.Ref tag false ∷ []; tags = tag ∷ []; log_records = [] }

-- a number with bit h where the test holds of host h
abbrev pub host_bits : Configuration → (HostId → Bool) → ℕ
host_bits c test = sum_by (λ h. if test h then 2 ^ h else 0) (hosts_of c)

-- 5608h: eighty-four tags at most
abbrev pub tags_rule : Configuration → List Effect → ℕ → Option Rule
tags_rule c past first = past_end first (length (open_tags c past))

-- a tag, with the hosts that hold it and those that are offered it
abbrev pub tag_seen : Configuration → List Effect → Tag → TagView
tag_seen c past t = record {
  tag = t;
  holders = host_bits c (is_accepted_by c t past);
  offered = host_bits c (is_offered_to t past);
  referenced = is_referenced t past;
}

abbrev pub tags_reply : Configuration → List Effect → ℕ → ℕ → List ℕ
tags_reply c past first count = let tags = open_tags c past in
    tags_payload first (length tags) (map (tag_seen c past) (page first (min count page_tags) tags))
