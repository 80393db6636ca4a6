-- What the manager takes from a host or asks it for, and what is told of it, 5605h.
use Rattle.std.specs.Prelude.{ℕ, Bool, All, ◌&&◌, not, ◌==◌, nat_lt, nat_le, IsTrue, List, [], ◌∷◌, Option, if◌then◌else◌, length}
use Rattle.event_records.specs.dcd_base.specs.{Words.◌or◌, declared.capacity.Extent.Extent, declared.capacity.Tag.Tag, declared.ids.HostId.HostId, declared.steps.LogId.LogId}
use Rattle.event_records.specs.declared.events.EventKind.{EventKind}
use Rattle.extent_list.specs.{ExtentLists.count_in, ExtentLists.tags_of, HostLists.Lists, dcd_codes.specs.Rules.◌breaks◌, dcd_codes.specs.Rules.ByRow}
use Rattle.extent_list.specs.{dcd_codes.specs.declared.refusals.Refusal.Refusal, dcd_codes.specs.declared.rules.Rule.Rule, media_map.specs.Places.is_granular}
use Rattle.extent_list.specs.media_map.specs.region_config.specs.Configurations.{Configuration}
use Rattle.device_state.specs.{StateAfter.IsStateAfter, StateAfter.part_of, declared.state.State.State, device_rules.specs.Legal.Legal}
use Rattle.device_state.specs.device_rules.specs.Outcomes.{Outcome, records_of_extents, log_full}
use Rattle.device_state.specs.device_rules.specs.ReleaseOutcomes.{is_cleaning, is_forced, policy_in, removals, removed}
use Rattle.device_state.specs.device_rules.specs.Views.{View, view_after, view_of}
use Rattle.device_commands.specs.{Drafts.Drafts, ListDrafts.Tells, declared.draft.Draft.Draft}
use Rattle.journal_core.specs.declared.{outcome.Effect.Effect, entries.Entry.Entry}
use Rattle.release_core.specs.Removals.{by_tag_rule, prescribed_removal_rule}
use Rattle.std.specs.declared.result.Result.{Result}
use Rattle.fm_payloads.specs.declared.requests.FmRequest.{FmRequest}
use Rattle.manager_commands.specs.declared.initiate_dynamic_capacity_release.RemoveRequest.{RemoveRequest}

-- the rules of the host and of the flags
abbrev pub flags_rule : ℕ → ℕ → ℕ → Option Rule
flags_rule hosts h flags =
    nat_le hosts h breaks Rule.NoSuchHost h
    or (is_cleaning flags && not (is_forced flags)) breaks Rule.UnsupportedFlag
    or nat_lt 1 (policy_in flags) breaks Rule.NoSuchPolicy (policy_in flags)

-- the rules of what is meant
abbrev pub meant_rule : Configuration → HostId → Lists → ℕ → ℕ → Tag → List Extent → Option Rule
meant_rule present h l flags r tag list =
    if policy_in flags == 0 then by_tag_rule l.accepted tag else prescribed_removal_rule present h l.accepted (count_in l.offers) r list (is_forced flags)

-- These extents are made of granules as the host sees them.
abbrev pub AreGranular : Configuration → HostId → List Extent → Type 0
AreGranular c h leaving = All (λ x. IsTrue (is_granular c h x.start x.length)) leaving

-- The draft changes so much, and tells the host of each of the extents.
abbrev pub IsDrafted : HostId → EventKind → List Effect → List Extent → Draft → Type 0
IsDrafted h kind changes leaving d = Tells changes (tags_of leaving) (LogId.Host h) (λ w. records_of_extents h w kind leaving) d

-- what a removal of these does
abbrev pub removal_outcome : Configuration → HostId → View → ℕ → List Extent → Outcome
removal_outcome c h v flags all =
    let changes = if is_forced flags then removals c h (is_cleaning flags) all else [] in record {
      payload = [];
      changes = changes;
      tags = tags_of all;
      log_records = (LogId.Host h, records_of_extents h (view_after c h v changes) (if is_forced flags then EventKind.Forced else EventKind.Release) all) ∷ [];
    }

-- The extents are taken from the host by force.
abbrev pub IsTakenByForce : Configuration → HostId → Bool → List Extent → Draft → Type 0
IsTakenByForce c h clean leaving d = IsDrafted h EventKind.Forced (removals c h clean leaving) leaving d

-- The host is asked for the extents.
abbrev pub IsAskedFor : HostId → List Extent → Draft → Type 0
IsAskedFor h leaving d = IsDrafted h EventKind.Release [] leaving d

-- ---- by the fields of a request

-- the request of these fields and this list
abbrev pub remove_request : RemoveRequest → List Extent → FmRequest
remove_request q list = FmRequest.Remove q.host q.flags q.region q.length q.tag list

-- the rules of what is meant, and what that is
abbrev pub meant_rule_of : State → HostId → RemoveRequest → List Extent → Option Rule
meant_rule_of s h q list = meant_rule s.present h (part_of s h).lists q.flags q.region q.tag list

abbrev pub meant_of : State → HostId → RemoveRequest → List Extent → List Extent
meant_of s h q list = removed (part_of s h).lists.accepted q.flags q.tag list

-- The extents are taken or asked for, or the host's log has no room, by every legal journal that leads to what is kept.
abbrev pub AnswersRemoval : Configuration → State → HostId → ℕ → List Extent → Result Draft Refusal → Type 0
AnswersRemoval c s h flags leaving result = (journal : List Entry) → Legal c journal → IsStateAfter c journal s →
    ByRow (log_full h (view_of c h journal).log (length leaving))
    (Drafts c h (view_of c h journal) (removal_outcome c h (view_of c h journal) flags leaving)) result
