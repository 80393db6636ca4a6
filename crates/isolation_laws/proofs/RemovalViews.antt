-- The manager asks the host for extents, or takes them by force: its view is then the one that it has alone.
use Rattle.std.proofs.Common.{◌≡◌, ◌+◌, ◌^◌, ◌<◌, ◌≤◌, Bool, true, false, ◌||◌, List, [], ◌∷◌, ◌++◌, None, length, refl, sym, ap, subst, ◌∙◌}
use Rattle.std.proofs.lemmas.{Bool.eq-eqb, Bool.false≢true, List.Elements.All-cons, List.Elements.All-nil}
use Rattle.std.specs.{List.AllByRecursion, List.list_all, List.list_any, Prelude.All, Prelude.filter_map, Prelude.fold, Prelude.if◌then◌else◌}
use Rattle.dcd_base.specs.declared.{capacity.Extent.Extent, ids.HostId.HostId, media.Run.Run, steps.LogId.LogId}
use Rattle.event_log.specs.Logs.{room_in}
use Rattle.event_records.specs.declared.events.EventKind.{EventKind}
use Rattle.extent_list.specs.{ExtentLists.cut, ExtentLists.cut_all, ExtentLists.tags_of, media_map.specs.Places.bytes_of_run, media_map.specs.Places.run_of, media_map.specs.Places.start_of}
use Rattle.extent_list.specs.media_map.specs.region_config.specs.Configurations.{Configuration}
use Rattle.journal_core.specs.declared.outcome.{Effect.Effect, HeldKind.HeldKind}
use Rattle.device_rules.proofs.{EffectKinds.removals_pass, LogHistories.leaves_logs, LogSteps.IsSound}
use Rattle.device_rules.specs.{Hosts.accepted_after, Hosts.block_after, Hosts.held_after, Hosts.moves, Hosts.offers_after, Logs.log_after, Logs.log_of}
use Rattle.device_rules.specs.{Outcomes.Outcome, Outcomes.effects_of, Outcomes.records_of_extents, ReleaseOutcomes.removals, ReleaseOutcomes.soils, Views.View, Views.view_after}
use Rattle.isolation_laws.proofs.{OneItem.BringsItems, OneItem.IsOneAtMost, OtherSteps.BringsAlone, OwnRecords.told_log_records, OwnRecords.view_after-log_records}
use Rattle.isolation_laws.proofs.RecordItems.{blocks_outcome, delivered_is, none_found}
use Rattle.isolation_laws.specs.{Solo.block_item, Solo.item_of, Solo.solo_after, Solo.with_log_records, declared.items.Item.Item}

-- what a removal of these extents does
abbrev pub removing : Configuration → HostId → View → Bool → Bool → List Extent → Outcome
removing c h v forced clean all = let changes : List Effect = if forced then removals c h clean all else [] in record {
  payload = [];
  changes = changes;
  tags = tags_of all;
  log_records = (LogId.Host h, records_of_extents h (view_after c h v changes) (if forced then EventKind.Forced else EventKind.Release) all) ∷ [];
}

-- the run of its granules begins where the extent does, and is as long; the extent ends within the addresses
pub record IsOwnRun (c : Configuration) (h : HostId) (x : Extent) : Type 0 where
  pub starts : start_of c h (run_of c h x) ≡ x.start
  pub bytes : bytes_of_run c (run_of c h x) ≡ x.length
  pub ends : x.start + x.length < 2 ^ 64

-- ---- the changes

-- what minds no Leave and no Soil stays
over-removals : {B : Type 0} (f : B → Effect → B) (c : Configuration) (h : HostId) → ((b : B) (run : Run) → f b (Effect.Leave h run) ≡ b) → ((b : B) (run : Run) → f b (Effect.Soil run) ≡ b) →
    (clean : Bool) (xs : List Extent) (b : B) → fold f b (removals c h clean xs) ≡ b
over-removals f c h leave soil clean [] b = refl
over-removals f c h leave soil true (x ∷ xs) b =
    ap (λ a. fold f (f a (Effect.Soil (run_of c h x))) (removals c h true xs)) (leave b (run_of c h x))
    ∙ ap (λ a. fold f a (removals c h true xs)) (soil b (run_of c h x)) ∙ over-removals f c h leave soil true xs b
over-removals f c h leave soil false (x ∷ xs) b =
    ap (λ a. fold f a (removals c h false xs)) (leave b (run_of c h x)) ∙ over-removals f c h leave soil false xs b

one_cut : (c : Configuration) (h : HostId) (x : Extent) (accepted : List Extent) → IsOwnRun c h x → accepted_after c h accepted (Effect.Leave h (run_of c h x)) ≡ cut x.start x.length accepted
one_cut c h x accepted own = λ i. if eq-eqb h h refl i then cut (own.starts i) (own.bytes i) accepted else accepted

-- the extents are cut out, one after the other
cuts : (c : Configuration) (h : HostId) (clean : Bool) (xs accepted : List Extent) → AllByRecursion (IsOwnRun c h) xs → fold (accepted_after c h) accepted (removals c h clean xs) ≡ cut_all xs accepted
cuts c h clean [] accepted own = refl
cuts c h true (x ∷ xs) accepted own = ap (λ list. fold (accepted_after c h) list (removals c h true xs)) (one_cut c h x accepted own.0) ∙ cuts c h true xs (cut x.start x.length accepted) own.1
cuts c h false (x ∷ xs) accepted own = ap (λ list. fold (accepted_after c h) list (removals c h false xs)) (one_cut c h x accepted own.0) ∙ cuts c h false xs (cut x.start x.length accepted) own.1

-- and nothing else of the view changes but the count of changes
view_after-removals : (c : Configuration) (h : HostId) (v : View) (clean : Bool) (x : Extent) (xs : List Extent) → AllByRecursion (IsOwnRun c h) (x ∷ xs) →
    view_after c h v (removals c h clean (x ∷ xs)) ≡ record v { accepted = cut_all (x ∷ xs) v.accepted; changes = v.changes + 1 }
view_after-removals c h v clean x xs own = λ i. record {
  offers = over-removals (offers_after h) c h (λ b run. refl) (λ b run. refl) clean (x ∷ xs) v.offers i;
  accepted = cuts c h clean (x ∷ xs) v.accepted own i;
  changes = if eq-eqb h h refl i || list_any (moves h) (soils clean (run_of c h x) ++ removals c h clean xs) then v.changes + 1 else v.changes;
  responses = over-removals (held_after h HeldKind.Responses) c h (λ b run. refl) (λ b run. refl) clean (x ∷ xs) v.responses i;
  releases = over-removals (held_after h HeldKind.Releases) c h (λ b run. refl) (λ b run. refl) clean (x ∷ xs) v.releases i;
  log = over-removals (log_after (LogId.Host h)) c h (λ b run. refl) (λ b run. refl) clean (x ∷ xs) v.log i;
  block = λ r. over-removals (block_after r) c h (λ b run. refl) (λ b run. refl) clean (x ∷ xs) (v.block r) i;
}

-- all of them end within the addresses
ends_within : (c : Configuration) (h : HostId) (xs : List Extent) → AllByRecursion (IsOwnRun c h) xs → All (λ (x : Extent). x.start + x.length < 2 ^ 64) xs
ends_within c h [] own = All-nil (λ (x : Extent). x.start + x.length < 2 ^ 64)
ends_within c h (x ∷ xs) own = All-cons (λ (y : Extent). y.start + y.length < 2 ^ 64) x xs own.0.ends (ends_within c h xs own.1)

-- no block size is set
abbrev pub no_block : Effect → Bool
no_block (Effect.Block r size) = false
no_block e = true

block-none : (e : Effect) → no_block e ≡ true → block_item e ≡ None
block-none (Effect.Block r size) none = absurd (false≢true none)
block-none e none = refl

-- ---- the command

module _ (c : Configuration) (h : HostId) (v : View) (past : List Effect) (log : log_of (LogId.Host h) past ≡ v.log) (sound : IsSound v.log) where
  quiet_logs : (forced clean : Bool) (all : List Extent) → list_all leaves_logs (if forced then removals c h clean all else []) ≡ true
  quiet_logs forced clean all = removals_pass leaves_logs h (λ run. refl) (λ run. refl) c forced clean all

  no_blocks : (forced clean : Bool) (all : List Extent) → filter_map block_item (effects_of c past (removing c h v forced clean all)) ≡ []
  no_blocks forced clean all =
      blocks_outcome c past (removing c h v forced clean all)
      ∙ none_found block_item no_block block-none (if forced then removals c h clean all else []) (removals_pass no_block h (λ run. refl) (λ run. refl) c forced clean all)

  -- without force the host is asked
  pub brings_request : (clean : Bool) (all : List Extent) → length all ≤ room_in (LogId.Host h) v.log → BringsAlone c h v (effects_of c past (removing c h v false clean all))
  brings_request clean all room =
      let o : Outcome = removing c h v false clean all in
      let tells : (asked : EventKind) → _ = told_log_records c h v past log sound v EventKind.Release all room o refl refl in
      subst (BringsItems c h v (effects_of c past o))
      (sym (delivered_is h (effects_of c past o) [] all [] [] (tells EventKind.Add) (tells EventKind.Release) (tells EventKind.Forced) (no_blocks false clean all)))
      (record { alone = view_after-log_records c h v past log sound v EventKind.Release all room o refl refl ∙ by all; few = few all })
    where
      few : (all : List Extent) → IsOneAtMost (item_of Item.Asked all ++ [] ++ [])
      few [] = tt
      few (x ∷ xs) = λ beyond. beyond

      by : (all : List Extent) → with_log_records v (records_of_extents h v EventKind.Release all) ≡ fold (solo_after c h) v (item_of Item.Asked all ++ [] ++ [])
      by [] = refl
      by (x ∷ xs) = refl

  -- by force they are cut out of its list
  pub brings_removal : (clean : Bool) (all : List Extent) → AllByRecursion (IsOwnRun c h) all → length all ≤ room_in (LogId.Host h) v.log → BringsAlone c h v (effects_of c past (removing c h v true clean all))
  brings_removal clean all own room =
      let o : Outcome = removing c h v true clean all in
      let w : View = view_after c h v (removals c h clean all) in
      let tells : (asked : EventKind) → _ = told_log_records c h v past log sound w EventKind.Forced all room o refl (quiet_logs true clean all) in
      subst (BringsItems c h v (effects_of c past o))
      (sym (delivered_is h (effects_of c past o) [] [] all [] (tells EventKind.Add) (tells EventKind.Release) (tells EventKind.Forced) (no_blocks true clean all)))
      (record { alone = view_after-log_records c h v past log sound w EventKind.Forced all room o refl (quiet_logs true clean all) ∙ by all own; few = few all own })
    where
      few : (all : List Extent) → AllByRecursion (IsOwnRun c h) all → IsOneAtMost (item_of Item.Taken all ++ [])
      few [] own = tt
      few (x ∷ xs) own = λ beyond. beyond (ends_within c h (x ∷ xs) own)

      by : (all : List Extent) → AllByRecursion (IsOwnRun c h) all →
          with_log_records (view_after c h v (removals c h clean all)) (records_of_extents h (view_after c h v (removals c h clean all)) EventKind.Forced all) ≡ fold (solo_after c h) v (item_of Item.Taken all ++ [])
      by [] own = refl
      by (x ∷ xs) own = ap {A = View} (λ u. with_log_records u (records_of_extents h u EventKind.Forced (x ∷ xs))) (view_after-removals c h v clean x xs own)
