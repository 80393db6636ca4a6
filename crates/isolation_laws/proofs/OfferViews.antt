-- The manager offers extents to the host: its view is then the one that it has alone, given them.
use Rattle.std.proofs.Common.{◌≡◌, ◌<◌, ◌≤◌, List, [], ◌∷◌, ◌++◌, length, refl, sym, ap, subst, ◌∙◌, arith}
use Rattle.std.{specs.Prelude.if◌then◌else◌, proofs.lemmas.Bool.eq-eqb}
use Rattle.dcd_base.specs.declared.{capacity.Extent.Extent, ids.HostId.HostId, steps.LogId.LogId}
use Rattle.event_log.specs.Logs.{room_in}
use Rattle.event_records.specs.declared.events.EventKind.{EventKind}
use Rattle.journal_core.specs.declared.outcome.Effect.{Effect}
use Rattle.extent_list.specs.media_map.specs.region_config.specs.Configurations.{Configuration}
use Rattle.device_rules.{specs.Logs.log_of, specs.Outcomes.Outcome, specs.Outcomes.effects_of, specs.Outcomes.records_of_extents, specs.Views.View, specs.Views.view_after, proofs.LogSteps.IsSound}
use Rattle.isolation_laws.proofs.{OneItem.BringsItems, OtherSteps.BringsAlone, OwnRecords.told_log_records, OwnRecords.view_after-log_records, RecordItems.blocks_outcome, RecordItems.delivered_is}
use Rattle.isolation_laws.specs.Solo.{with_log_records}

-- what an offer of these extents does
abbrev pub offering : Configuration → HostId → View → List Extent → Outcome
offering c h v new = record {
  payload = [];
  changes = Effect.Offer h new ∷ [];
  tags = [];
  log_records = (LogId.Host h, records_of_extents h (view_after c h v (Effect.Offer h new ∷ [])) EventKind.Add new) ∷ [];
}

module _ (c : Configuration) (h : HostId) (v : View) (past : List Effect) (log : log_of (LogId.Host h) past ≡ v.log) (sound : IsSound v.log) where
  offered_view : (new : List Extent) → view_after c h v (Effect.Offer h new ∷ []) ≡ record v { offers = v.offers ++ new ∷ [] }
  offered_view new = λ i. record v { offers = if eq-eqb h h refl i then v.offers ++ new ∷ [] else v.offers }

  pub brings_offer : (new : List Extent) → 0 < length new → length new ≤ room_in (LogId.Host h) v.log → BringsAlone c h v (effects_of c past (offering c h v new))
  brings_offer [] some room = absurd (omega (arith, some))
  brings_offer (x ∷ xs) some room =
      let new : List Extent = x ∷ xs in
      let o : Outcome = offering c h v (x ∷ xs) in
      let w : View = view_after c h v (Effect.Offer h (x ∷ xs) ∷ []) in
      let tells : (asked : EventKind) → _ = told_log_records c h v past log sound w EventKind.Add (x ∷ xs) room o refl refl in
      subst (BringsItems c h v (effects_of c past o))
      (sym (delivered_is h (effects_of c past o) (x ∷ xs) [] [] [] (tells EventKind.Add) (tells EventKind.Release) (tells EventKind.Forced) (blocks_outcome c past o)))
      (record {
        alone =
            view_after-log_records c h v past log sound w EventKind.Add (x ∷ xs) room o refl refl
            ∙ ap {A = View} (λ u. with_log_records u (records_of_extents h u EventKind.Add (x ∷ xs))) (offered_view (x ∷ xs));
        few = λ beyond. beyond;
      })
