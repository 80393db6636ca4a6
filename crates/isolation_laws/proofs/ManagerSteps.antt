-- What the manager's commands make of a host's view: what they bring it makes that of it alone.
use Rattle.std.proofs.Common.{◌≡◌, ℕ, ◌<◌, ◌≤◌, Bool, true, false, not, ◌==◌, List, [], length, Option, Some, None, inl, inr, refl, sym, ap, subst, ◌∙◌, leb, ltb}
use Rattle.std.proofs.lemmas.Bool.{and_from, cases_eq, leb-false, lt-ltb, not-false}
use Rattle.std.specs.{List.AllByRecursion, List.list_all, Prelude.if◌then◌else◌, declared.result.Result.Result, declared.result.Result.TheVariants.Ok, declared.result.Result.TheVariants.Err}
use Rattle.dcd_base.specs.{Words.◌or◌, declared.capacity.Extent.Extent, declared.capacity.Tag.Tag, declared.faults.PayloadFault.PayloadFault as ManagerFault, declared.ids.HostId.HostId}
use Rattle.dcd_base.specs.declared.steps.LogId.{LogId}
use Rattle.extent_list.specs.{ExtentLists.count_in, dcd_codes.specs.Rules.◌breaks◌, dcd_codes.specs.Rules.each_in, dcd_codes.specs.declared.rules.Rule.Rule}
use Rattle.extent_list.specs.media_map.specs.region_config.specs.{Configurations.Configuration, Granules.hosts_of, Granules.is_supported, Granules.region_spec, Granules.with_blocks, Soundness.IsSound}
use Rattle.event_log.specs.Logs.{room_in}
use Rattle.fm_payloads.specs.declared.requests.FmRequest.{FmRequest}
use Rattle.journal_core.specs.{Entries.effects, declared.entries.Entry.Entry, declared.outcome.Effect.Effect}
use Rattle.release_core.specs.Removals.{by_tag_rule, prescribed_removal_rule}
use Rattle.device_rules.proofs.{Adding.added, Adding.row_of, EffectKinds.clear_passes, EffectKinds.reference_passes, LogOutcomes.last_of, LogOutcomes.room_for, LogSteps.IsSound as IsSoundLog}
use Rattle.device_rules.proofs.{Overlaps.not_broken, ViewOthers.add-leaves, ViewOthers.remove-leaves, ViewsLeft.leaves_view, ViewsLeft.outcome-leaves}
use Rattle.device_rules.specs.{Adding.add_outcome, Adding.add_rule, Adding.offered, Answers.effects_with, Answers.manager_outcome, Answers.manager_result, Answers.manager_rule, Answers.unless}
use Rattle.device_rules.specs.{EventCommands.clear_outcome, Logs.log_of, Outcomes.Outcome, Outcomes.effects_of, Outcomes.log_full, Pictures.picture_of}
use Rattle.device_rules.specs.ReleaseOutcomes.{is_cleaning, is_forced, policy_in, remove_outcome, remove_rule, removed}
use Rattle.device_rules.specs.{Settings.in_use, Settings.no_such_region, Settings.set_outcome, Settings.set_rule, Standing.Sound}
use Rattle.device_rules.specs.{TagCommands.add_reference_outcome, TagCommands.remove_reference_outcome, Tags.is_referenced, Views.View, Views.view_of}
use Rattle.selection.proofs.Prescribed.{neither}
use Rattle.isolation_laws.proofs.{BlockSizes.brings_block, OfferViews.brings_offer, OtherSteps.BringsAlone, OtherSteps.brings_nothing}
use Rattle.isolation_laws.proofs.{RemovalViews.IsOwnRun, RemovalViews.brings_removal, RemovalViews.brings_request, RemovalViews.removing, RemovedRuns.removed_runs}

module _ (c : Configuration) (sound : IsSound c) (before : List Entry) (now : Sound c (picture_of c (effects before))) (h : HostId) (known : h < c.hosts)
    (history : IsSoundLog (log_of (LogId.Host h) (effects before))) where
  abbrev v : View
  v = view_of c h before

  abbrev Brings : List Effect → Type 0
  Brings new = BringsAlone c h (view_of c h before) new

  none_brought : (new : List Effect) → list_all (leaves_view h) new ≡ true → Brings new
  none_brought new all = brings_nothing c h (view_of c h before) new all

  -- ---- 5604h: to this host, and to another

  add_own : (policy r bytes : ℕ) (tag : Tag) (list : List Extent) → add_rule c (effects before) (λ k. view_of c k before) h policy r bytes tag list ≡ None →
      Brings (effects_of c (effects before) (add_outcome c (effects before) (λ k. view_of c k before) h policy r bytes tag list))
  add_own policy r bytes tag list row =
      let new : List Extent = offered c (effects before) h policy r bytes tag list in
      let a = added c sound (effects before) now h r tag bytes list policy (row_of c before h policy r bytes tag list row) in
      brings_offer c h v (effects before) refl history new a.some (room_for h v.log (length new) (last_of _ _ row))

  add_case : (k policy r bytes : ℕ) (tag : Tag) (list : List Extent) → add_rule c (effects before) (λ k. view_of c k before) k policy r bytes tag list ≡ None →
      Brings (effects_of c (effects before) (add_outcome c (effects before) (λ k. view_of c k before) k policy r bytes tag list))
  add_case k policy r bytes tag list row = elim (cases_eq k h) [
    | inl same ↦ subst (λ k. Brings (effects_of c (effects before) (add_outcome c (effects before) (λ k. view_of c k before) k policy r bytes tag list))) (sym same)
        (add_own policy r bytes tag list (ap (λ k. add_rule c (effects before) (λ k. view_of c k before) k policy r bytes tag list) (sym same) ∙ row))
    | inr other ↦ none_brought (effects_of c (effects before) (add_outcome c (effects before) (λ k. view_of c k before) k policy r bytes tag list))
        (add-leaves c k h other (effects before) (λ k. view_of c k before) policy r bytes tag list)
  ]

  -- ---- 5605h: to this host, and to another

  by_force : (forced clean : Bool) (all : List Extent) → (forced ≡ true → AllByRecursion (IsOwnRun c h) all) → length all ≤ room_in (LogId.Host h) (log_of (LogId.Host h) (effects before)) →
      Brings (effects_of c (effects before) (removing c h (view_of c h before) forced clean all))
  by_force true clean all own room = brings_removal c h v (effects before) refl history clean all (own refl) room
  by_force false clean all own room = brings_request c h v (effects before) refl history clean all room

  remove_own : (flags r : ℕ) (tag : Tag) (list : List Extent) → remove_rule c (λ k. view_of c k before) h flags r tag list ≡ None →
      Brings (effects_of c (effects before) (remove_outcome c (λ k. view_of c k before) h flags tag list))
  remove_own flags r tag list row =
      let all : List Extent = removed v.accepted flags tag list in
      let by_row : Bool → Option Rule = λ forced. if policy_in flags == 0 then by_tag_rule v.accepted tag else prescribed_removal_rule (with_blocks c v.block) h v.accepted (count_in v.offers) r list forced in
      let front = neither _ (log_full h v.log (length all)) row in
      let rules = neither _ (by_row (is_forced flags)) front.0 in
      by_force (is_forced flags) (is_cleaning flags) all
      (λ is. removed_runs c sound (picture_of c (effects before)) now.stands h known (policy_in flags == 0) r tag list (ap by_row (sym is) ∙ rules.1))
      (room_for h v.log (length all) (last_of _ _ row))

  remove_case : (k flags r : ℕ) (tag : Tag) (list : List Extent) → remove_rule c (λ k. view_of c k before) k flags r tag list ≡ None →
      Brings (effects_of c (effects before) (remove_outcome c (λ k. view_of c k before) k flags tag list))
  remove_case k flags r tag list row = elim (cases_eq k h) [
    | inl same ↦ subst (λ k. Brings (effects_of c (effects before) (remove_outcome c (λ k. view_of c k before) k flags tag list))) (sym same)
        (remove_own flags r tag list (ap (λ k. remove_rule c (λ k. view_of c k before) k flags r tag list) (sym same) ∙ row))
    | inr other ↦ none_brought (effects_of c (effects before) (remove_outcome c (λ k. view_of c k before) k flags tag list))
        (remove-leaves c k h other (effects before) (λ k. view_of c k before) flags tag list)
  ]

  -- ---- 5602h

  set_case : (r : ℕ) (sanitize : Bool) (size : ℕ) → set_rule c (effects before) (λ k. view_of c k before) r sanitize size ≡ None →
      Brings (effects_of c (effects before) (set_outcome c (λ k. view_of c k before) r size))
  set_case r sanitize size row =
      let p4 = neither _ (each_in (hosts_of c) (λ b k. log_full k (view_of c k before).log 1)) row in
      let p3 = neither _ (ltb 0 (in_use c (effects before) r) breaks Rule.RegionInUse (in_use c (effects before) r)) p4.0 in
      let p2 = neither (no_such_region c r or not (is_supported (region_spec c r) size) breaks Rule.NotSupportedSize size) _ p3.0 in
      let p1 = neither (no_such_region c r) (not (is_supported (region_spec c r) size) breaks Rule.NotSupportedSize size) p2.0 in
      let within : r < length c.regions = leb-false _ _ (not_broken (leb (length c.regions) r) (Rule.NoSuchRegion r) p1.0) in
      let supported : is_supported (region_spec c r) size ≡ true = not-false _ (not_broken (not (is_supported (region_spec c r) size)) (Rule.NotSupportedSize size) p1.1) in
      brings_block c h (λ k. view_of c k before) (effects before) refl history r size known (and_from _ _ (lt-ltb r (length c.regions) within) supported) p4.1

  -- ---- all of them

  manager_case : (q : FmRequest) → manager_rule c (effects before) (λ k. view_of c k before) q ≡ None →
      Brings (effects_of c (effects before) (manager_outcome c (effects before) (λ k. view_of c k before) q))
  manager_case (FmRequest.GetEvents log) row = none_brought [] refl
  manager_case FmRequest.GetInfo row = none_brought [] refl
  manager_case (FmRequest.GetRegions host count first) row = none_brought [] refl
  manager_case (FmRequest.GetExtentLists host count first) row = none_brought [] refl
  manager_case (FmRequest.ListTags first count) row = none_brought [] refl
  manager_case (FmRequest.ClearEvents number all handles) row =
      let o : Outcome = clear_outcome LogId.Manager number (log_of LogId.Manager (effects before)) all handles in
      none_brought (effects_of c (effects before) o)
      (outcome-leaves c h (effects before) o (clear_passes (leaves_view h) LogId.Manager (record { cleared = λ n. refl; reset = refl }) number (log_of LogId.Manager (effects before)) all handles) refl)
  manager_case (FmRequest.SetRegion r sanitize size) row = set_case r sanitize size row
  manager_case (FmRequest.Add host policy r bytes tag list) row = add_case host policy r bytes tag list row
  manager_case (FmRequest.Remove host flags r bytes tag list) row = remove_case host flags r tag list row
  manager_case (FmRequest.AddReference tag) row =
      let o : Outcome = add_reference_outcome (effects before) tag in
      none_brought (effects_of c (effects before) o) (outcome-leaves c h (effects before) o (reference_passes (leaves_view h) tag refl (is_referenced tag (effects before))) refl)
  manager_case (FmRequest.RemoveReference tag) row =
      let o : Outcome = remove_reference_outcome tag in none_brought (effects_of c (effects before) o) (outcome-leaves c h (effects before) o refl refl)

  by_rule : (rule : Option Rule) (o : Outcome) → (rule ≡ None → Brings (effects_of c (effects before) o)) → Brings (effects_with c (effects before) [] (unless rule o))
  by_rule None o fine = fine refl
  by_rule (Some rule) o fine = none_brought [] refl

  pub manager_brings : (result : Result FmRequest ManagerFault) → BringsAlone c h (view_of c h before) (effects_with c (effects before) [] (manager_result c before result))
  manager_brings (Ok q) = by_rule (manager_rule c (effects before) (λ k. view_of c k before) q) (manager_outcome c (effects before) (λ k. view_of c k before) q) (manager_case q)
  manager_brings (Err fault) = none_brought [] refl
