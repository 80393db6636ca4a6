-- What an offer breaks, what it has, and what it comes to, by what is kept, 5604h.
use Rattle.std.specs.Prelude.{◌≡◌, ℕ, ◌+◌, ◌/◌, Bool, ◌&&◌, not, ◌==◌, ◌||◌, nat_le, nat_lt, List, [], ◌∷◌, ◌++◌, Option, if◌then◌else◌, length}
use Rattle.std.specs.{List.list_any, declared.result.Result.Result}
use Rattle.event_records.specs.dcd_base.specs.{Words.◌or◌, Words.is_zero_tag, Words.where_true, declared.capacity.Extent.Extent, declared.capacity.Tag.Tag, declared.ids.HostId.HostId}
use Rattle.event_records.specs.{dcd_base.specs.declared.media.Run.Run, dcd_base.specs.declared.steps.LogId.LogId, declared.events.EventKind.EventKind}
use Rattle.extent_list.specs.{ExtentLists.has_extent_of, ExtentLists.real_tags, HostLists.Lists, HostLists.extent_total, HostLists.extents_of_lists, Listing.too_many_extents}
use Rattle.extent_list.specs.dcd_codes.specs.{Rules.◌breaks◌, Rules.ByRow, declared.refusals.Refusal.Refusal, declared.rules.Rule.Rule}
use Rattle.extent_list.specs.media_map.specs.region_config.specs.Granules.{hosts_of, region_spec}
use Rattle.event_log.specs.Logs.{Log, IsLogOf}
use Rattle.selection.specs.{granule_map.specs.StateLists.is_free_at, Selections.contiguous_runs, Selections.free_runs, Selections.prescribed_rule}
use Rattle.device_state.specs.{Entered.runs_in, StateAfter.part_of, declared.state.State.State}
use Rattle.device_state.specs.device_rules.specs.Adding.{extents_of, area_of, by_length_rule, chosen, per_block, with_tag, too_many_tags}
use Rattle.device_state.specs.device_rules.specs.Outcomes.{log_full, records_of_extents}
use Rattle.device_commands.specs.{ListDrafts.Tells, declared.draft.Draft.Draft}
use Rattle.journal_core.specs.declared.outcome.Effect.{Effect}
use Rattle.tag_refs.specs.{Tables.entry_referenced, Tables.passes, declared.entries.TagEntry.TagEntry}
use Rattle.fm_payloads.specs.declared.requests.FmRequest.{FmRequest}
use Rattle.manager_commands.specs.declared.{choosing.Asked.Asked, initiate_dynamic_capacity_add.AddRequest.AddRequest}

-- the rules of the host, the policy and the region
abbrev pub target_rule : ℕ → ℕ → ℕ → ℕ → ℕ → Option Rule
target_rule hosts regions h policy r =
    nat_le hosts h breaks Rule.NoSuchHost h
    or nat_lt 3 policy breaks Rule.NoSuchPolicy policy
    or nat_le regions r breaks Rule.NoSuchRegion r

-- whether lists have the tag, and whether a host has it or the manager refers to it
abbrev pub lists_have : Tag → Lists → Bool
lists_have t l = has_extent_of t l.accepted || list_any (has_extent_of t) l.offers

abbrev pub is_with_hosts : State → Tag → Bool
is_with_hosts s t = list_any (λ h. lists_have t (part_of s h).lists) (hosts_of s.present)

abbrev pub is_used_tag : State → Tag → Bool
is_used_tag s t = not (is_zero_tag t) && (is_with_hosts s t || passes t entry_referenced s.tags.entries)

-- the rules of a tag that is shared
abbrev pub shared_rule : State → HostId → ℕ → Tag → Option Rule
shared_rule s h r t =
    not (passes t (λ (e : TagEntry). e.region == r) s.tags.entries) breaks Rule.NoSuchTag
    or lists_have t (part_of s h).lists breaks Rule.AlreadyShared

-- the rules of the tag
abbrev pub tag_rule : State → HostId → ℕ → ℕ → Tag → Option Rule
tag_rule s h policy r t =
    ((policy == 3) && not (region_spec s.present r).shareable) breaks Rule.NotShareable r
    or (is_zero_tag t && (region_spec s.present r).shareable) breaks Rule.ZeroTag
    or (nat_le policy 2 && is_used_tag s t) breaks Rule.TagInUse
    or ((policy == 3) && not (passes t (λ (e : TagEntry). e.region == r) s.tags.entries)) breaks Rule.NoSuchTag
    or ((policy == 3) && lists_have t (part_of s h).lists) breaks Rule.AlreadyShared

-- so many free blocks of the region, and so many bytes of them
abbrev pub block_runs : State → ℕ → ℕ → ℕ → List Run
block_runs s policy r need =
    if policy == 0 then free_runs (is_free_at s.granules.states) (area_of s.present r) (per_block s.present r) need
    else contiguous_runs (is_free_at s.granules.states) (area_of s.present r) (per_block s.present r) need

abbrev pub by_length_runs : State → ℕ → ℕ → ℕ → List Run
by_length_runs s policy r bytes = block_runs s policy r (bytes / (region_spec s.present r).block)

-- the rules of what is chosen, and what that is
abbrev pub chosen_rule : State → HostId → ℕ → ℕ → ℕ → List Extent → Option Rule
chosen_rule s h policy r bytes list =
    where_true (nat_le policy 1) (by_length_rule s.present (is_free_at s.granules.states) r policy bytes)
    or where_true (policy == 2) (prescribed_rule s.present h (is_free_at s.granules.states) r list)

abbrev pub chosen_now : State → HostId → ℕ → ℕ → ℕ → Tag → List Extent → List Extent
chosen_now s h policy r bytes t list = chosen s.present (is_free_at s.granules.states) (runs_in s t) h policy r bytes list

abbrev pub offered_now : State → HostId → ℕ → ℕ → ℕ → Tag → List Extent → List Extent
offered_now s h policy r bytes t list = with_tag (region_spec s.present r).shareable t (chosen_now s h policy r bytes t list)

-- the rules of what the host would have then
abbrev pub room_rule : HostId → Lists → Log → List Extent → Option Rule
room_rule h l log new =
    too_many_extents (extent_total l + length new)
    or too_many_tags (length (real_tags (extents_of_lists l ++ new)))
    or log_full h log (length new)

-- The draft offers these to the host, and tells it of each.
abbrev pub DraftOffers : HostId → List Extent → Draft → Type 0
DraftOffers h new d = Tells (Effect.Offer h new ∷ []) [] (LogId.Host h) (λ w. records_of_extents h w EventKind.Add new) d

-- ---- by the fields of a request

-- the request of these fields and this list
abbrev pub add_request : AddRequest → List Extent → FmRequest
add_request q list = FmRequest.Add q.host q.policy q.region q.length q.tag list

-- the rules of its host, policy and region
abbrev pub request_rule : State → AddRequest → Option Rule
request_rule s q = target_rule s.present.hosts (length s.present.regions) q.host q.policy q.region

-- ---- by what is asked for, where host, policy and region are there

-- the rules of what is chosen, and what is offered of it
abbrev pub policy_rule : State → Asked → List Extent → Option Rule
policy_rule s a list = chosen_rule s a.host a.policy a.region a.length list

abbrev pub new_offer : State → Asked → List Extent → List Extent
new_offer s a list = offered_now s a.host a.policy a.region a.length a.tag list

-- the rules of so many bytes, and the runs that are found
abbrev pub length_rule : State → Asked → Option Rule
length_rule s a = by_length_rule s.present (is_free_at s.granules.states) a.region a.policy a.length

abbrev pub length_runs : State → Asked → List Run
length_runs s a = by_length_runs s a.policy a.region a.length

-- runs of granules as extents of the host, with the tag
abbrev pub tagged_runs : State → Asked → Bool → List Run → List Extent
tagged_runs s a shareable runs = with_tag shareable a.tag (extents_of s.present a.host runs)

-- ---- by each history that the host's log shows

-- It is the rule of the room that the host has for more extents.
abbrev pub IsRoomRule : State → HostId → List Extent → Option Rule → Type 0
IsRoomRule s h new found = (log : Log) → IsLogOf (LogId.Host h) log (part_of s h).log → found ≡ room_rule h (part_of s h).lists log new

-- The extents are offered, or this rule is broken.
abbrev pub AnswersOffer : State → HostId → List Extent → Result Draft Refusal → Type 0
AnswersOffer s h new result = (log : Log) → IsLogOf (LogId.Host h) log (part_of s h).log →
    ByRow (room_rule h (part_of s h).lists log new) (DraftOffers h new) result
