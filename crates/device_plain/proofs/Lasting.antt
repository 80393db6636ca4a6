-- What is kept stays what a journal says: with an entry that has no effects, and whatever room there is for tags.
use Rattle.std.proofs.Common.{◌≡◌, List, [], ◌∷◌, ◌++◌, sym, ap, subst, ◌∙◌}
use Rattle.dcd_base.specs.declared.{ids.HostId.HostId, steps.LogId.LogId}
use Rattle.region_config.specs.Configurations.{Configuration}
use Rattle.granule_map.specs.Tables.{cell_at}
use Rattle.journal_core.specs.{Entries.effects, Holders.holds, declared.entries.Entry.Entry, declared.outcome.Effect.Effect}
use Rattle.control_core.specs.device_rules.{proofs.ViewSteps.view_of-push, specs.Adding.present, specs.GranuleCells.IsCell, specs.Logs.log_of, specs.TagTable.IsTable}
use Rattle.control_core.specs.device_rules.specs.Views.{View, view_after, view_of}
use Rattle.control_core.specs.device_state.specs.{StateAfter.IsPart, StateAfter.IsStateAfter, StateAfter.part_of, declared.state.State.State}
use Rattle.event_log.specs.Logs.{IsLogOf}
use Rattle.tag_refs.specs.declared.entries.TagEntry.{TagEntry}
use Rattle.device_plain.proofs.MemorySteps.{effects_stay}

-- an entry without effects changes no view
views_stay : (c : Configuration) (h : HostId) (journal : List Entry) (e : Entry) → e.effects ≡ [] → view_of c h (journal ++ e ∷ []) ≡ view_of c h journal
views_stay c h journal e none = view_of-push c h journal e ∙ ap (view_after c h (view_of c h journal)) none

pub state_stays : (c : Configuration) (journal : List Entry) (e : Entry) (s : State) → e.effects ≡ [] → IsStateAfter c journal s → IsStateAfter c (journal ++ e ∷ []) s
state_stays c journal e s none is = record {
  present_is = is.present_is ∙ ap (present c) past;
  host_count = is.host_count;
  parts = λ h host. subst (λ (v : View). IsPart h v (part_of s h)) (sym (views_stay c h journal e none)) (is.parts h host);
  manager_log = subst (λ (es : List Effect). IsLogOf LogId.Manager (log_of LogId.Manager es) s.manager) past is.manager_log;
  granule_count = is.granule_count;
  cells = λ g below. subst (λ (es : List Effect). IsCell c es g (cell_at s.granules g)) past (is.cells g below);
  holder_count = is.holder_count;
  held = λ g h below host. is.held g h below host ∙ ap (holds h g) past;
  no_others = is.no_others;
  tags_are = subst (λ (es : List Effect). IsTable c es s.tags.entries) past is.tags_are;
}
  where
    past : effects journal ≡ effects (journal ++ e ∷ [])
    past = sym (effects_stay journal e none)

-- the same but for the room for tags
pub state_with_room : (c : Configuration) (journal : List Entry) (s t : State) → t ≡ record s { tags = t.tags } → t.tags.entries ≡ s.tags.entries → IsStateAfter c journal s → IsStateAfter c journal t
state_with_room c journal s t kept tags is = subst (IsStateAfter c journal) (sym kept) (record {
  present_is = is.present_is;
  host_count = is.host_count;
  parts = is.parts;
  manager_log = is.manager_log;
  granule_count = is.granule_count;
  cells = is.cells;
  holder_count = is.holder_count;
  held = is.held;
  no_others = is.no_others;
  tags_are = subst (λ (entries : List TagEntry). IsTable c (effects journal) entries) (sym tags) is.tags_are;
})
