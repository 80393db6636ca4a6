-- A draft that is entered is its outcome.
use Rattle.std.proofs.Common.{◌≡◌, ◌<◌, List, [], ◌++◌, map, flat_map, sym, ap, ◌∙◌}
use Rattle.std.{specs.Prelude.fold, specs.List.list_any, proofs.lemmas.List.Sums.fold-append}
use Rattle.cci_codec.specs.{declared.messages.Request.Request, dcd_base.specs.declared.ids.HostId.HostId}
use Rattle.extent_list.specs.{dcd_codes.specs.declared.codes.Code.Code, ExtentLists.has_extent_of, media_map.specs.region_config.specs.Configurations.Configuration, HostLists.Lists}
use Rattle.journal_core.specs.{Entries.effects, declared.entries.Entry.Entry, declared.outcome.Effect.Effect, declared.acts.Reply.Reply}
use Rattle.device_commands.specs.{Drafts.Drafts, Drafts.HasExtentsOf, declared.draft.Draft.Draft, device_rules.specs.Answers.response}
use Rattle.device_commands.specs.device_rules.specs.{Hosts.accepted_after, Hosts.accepted_of, Hosts.offers_after, Hosts.offers_of, Logs.log_of}
use Rattle.device_commands.specs.device_rules.specs.Outcomes.{Outcome, effects_of, ended, entered_all}
use Rattle.device_commands.specs.device_rules.specs.{TagTable.IsTable, TagTable.among, TagTable.among_offers, TagTable.ending, Views.View, Views.lists_in, Views.view_after, Views.view_of}
use Rattle.manager_commands.specs.device_state.{specs.StateAfter.IsStateAfter, specs.declared.state.State.State, specs.EnteredLists.lists_by, proofs.Keeping.lists_fields}
use Rattle.tag_refs.specs.declared.entries.TagEntry.{TagEntry}
use Rattle.control_core.{proofs.Recorded.told_is, specs.Doing.IsDone, specs.Doing.IsOfHost}
use Rattle.control_core.specs.Recording.{AreRecorded, after_changes, ending_with, events_by, records_told}

module _ (c : Configuration) (before : List Entry) (h : HostId) (o : Outcome) (of : IsOfHost c before h o) where
  -- the host's own lists, as the changes leave them
  abbrev its : Lists
  its = lists_in (view_after c h (view_of c h before) o.changes)

  its_accepted : its.accepted ≡ accepted_of c h (effects before ++ o.changes)
  its_accepted = sym (fold-append (accepted_after c h) [] (effects before) o.changes)

  its_offers : its.offers ≡ offers_of h (effects before ++ o.changes)
  its_offers = sym (fold-append (offers_after h) [] (effects before) o.changes)

  -- the tags that end
  its_ended : (entries : List TagEntry) → IsTable c (effects before) entries → (lists : Lists) → HasExtentsOf (view_after c h (view_of c h before) o.changes) lists →
      ending h (λ t. has_extent_of t lists.accepted) (λ t. list_any (has_extent_of t) lists.offers) entries o.tags ≡ ended c (effects before) o.changes o.tags
  its_ended entries table lists has =
      (λ i. ending h (among (has.accepted i)) (among_offers (has.offers i)) entries o.tags)
      ∙ (λ i. ending h (among (its_accepted i)) (among_offers (its_offers i)) entries o.tags)
      ∙ sym (of.ended_are entries table)

-- the lists that the host has once the changes are made show what its view shows then
pub after_extents : (c : Configuration) (h : HostId) (before : List Entry) (s : State) → IsStateAfter c before s → h < c.hosts → (changes : List Effect) →
    HasExtentsOf (view_after c h (view_of c h before) changes) (after_changes c s h changes)
after_extents c h before s kept host changes =
    let all = ap (λ (l : Lists). fold (lists_by c h) l changes) (kept.parts h host).lists_are ∙ lists_fields c h (lists_in (view_of c h before)) changes in
    record { accepted = ap (λ (l : Lists). l.accepted) all; offers = ap (λ (l : Lists). l.offers) all }

-- its effects: its changes, the ends of tags, and its records
all_effects : (c : Configuration) (before : List Entry) (s : State) → IsStateAfter c before s → (h : HostId) (o : Outcome) → IsOfHost c before h o →
    (draft : Draft) → Drafts c h (view_of c h before) o draft →
    (draft.changes ++ map Effect.TagEnd (ending_with h (after_changes c s h o.changes) s.tags.entries draft.tags)) ++ records_told (effects before) (events_by (view_after c h (view_of c h before) o.changes)) draft.log_records
    ≡ effects_of c (effects before) o
all_effects c before s kept h o of draft drafts =
    let lists : Lists = after_changes c s h o.changes in
    let w : View = view_after c h (view_of c h before) o.changes in
    (λ i. (drafts.changes i ++ map Effect.TagEnd (ending_with h lists s.tags.entries (drafts.tags i))) ++ told_is (effects before) (events_by w) draft.log_records i)
    ∙ (λ i. (o.changes ++ map Effect.TagEnd (its_ended c before h o of s.tags.entries kept.tags_are lists (after_extents c h before s kept of.host o.changes) i)) ++ flat_map (λ n. entered_all n.0 (log_of n.0 (effects before)) n.1) (drafts.log_records i))

-- a draft with the ends of tags and the records behind its changes is done
pub recorded_done : (c : Configuration) (before : List Entry) (s : State) → IsStateAfter c before s → (q : Request) (h : HostId) (o : Outcome) → IsOfHost c before h o →
    (draft : Draft) → Drafts c h (view_of c h before) o draft → (reply : Reply) (all : List Effect) → reply ≡ response q Code.Success draft.payload → AreRecorded c s h draft all →
    IsDone c before q o (record { reply = reply; effects = all })
recorded_done c before s kept q h o of draft drafts reply all answers recorded =
    let with_changes = λ (es : List Effect). (draft.changes ++ map Effect.TagEnd (ending_with h (after_changes c s h es) s.tags.entries draft.tags))
    ++ records_told (effects before) (events_by (view_after c h (view_of c h before) es)) draft.log_records in
    record {
      reply = answers ∙ ap (response q Code.Success) drafts.payload;
      effects = recorded before kept ∙ ap with_changes drafts.changes ∙ all_effects c before s kept h o of draft drafts;
    }
