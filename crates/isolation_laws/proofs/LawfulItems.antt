-- No legal journal brings a host an unlawful item.
use Rattle.std.proofs.Common.{◌≡◌, ℕ, zero, suc, ◌<◌, ◌≤◌, List, [], ◌∷◌, ◌++◌, Some, length, take, inl, inr, sym, subst, arith}
use Rattle.std.{specs.Prelude.fold, specs.Prelude.slice_get, proofs.lemmas.Option.none-some, proofs.lemmas.Option.same_Some}
use Rattle.dcd_base.specs.declared.{ids.HostId.HostId, steps.LogId.LogId}
use Rattle.event_log.specs.Logs.{records_in}
use Rattle.journal_core.{proofs.EachSteps.Each-push, specs.declared.entries.Entry.Entry, specs.declared.outcome.Effect.Effect}
use Rattle.extent_list.specs.media_map.specs.region_config.specs.{Configurations.Configuration, Soundness.IsSound}
use Rattle.device_rules.{proofs.LegalLogs.legal_logs, proofs.LegalSound.legal_is_sound, proofs.LegalSteps.by_steps, proofs.ViewSteps.view_of-push, specs.Legal.Legal, specs.Legal.Meets}
use Rattle.device_rules.specs.Views.{View, extents_in, first_view, view_after, view_of}
use Rattle.isolation_laws.{proofs.AllSee.all_see_alone, proofs.AllSee.steps_alone, proofs.LogSizes.few_records, proofs.OneItem.BringsItems, proofs.OwnItems.own_items-push, specs.Laws.AreLawful}
use Rattle.isolation_laws.specs.{Solo.items_of, Solo.own_items, Solo.solo_after, Unlawful.IsUnlawful, declared.items.Item.Item}

-- The host has no more extents and records than it may have.
pub record IsRoomy (v : View) : Type 0 where
  pub extents : length (extents_in v) ≤ 64
  pub records : length (records_in v.log) ≤ 64

module _ (c : Configuration) (h : HostId) where
  -- ---- each item, after those before it

  abbrev LawfulFrom : View → List Item → Type 0
  LawfulFrom v [] = Unit {0}
  LawfulFrom v (item ∷ items) = (¬ IsUnlawful c h v item) × LawfulFrom (solo_after c h v item) items

  lawful-append : (v : View) (front items : List Item) → LawfulFrom v front → LawfulFrom (fold (solo_after c h) v front) items → LawfulFrom v (front ++ items)
  lawful-append v [] items first second = second
  lawful-append v (item ∷ front) items first second = (first.0, lawful-append (solo_after c h v item) front items first.1 second)

  lawful_at : (v : View) (items : List Item) → LawfulFrom v items → (i : ℕ) (item : Item) → slice_get items i ≡ Some item → ¬ IsUnlawful c h (fold (solo_after c h) v (take i items)) item
  lawful_at v [] all i item is = absurd (none-some item is)
  lawful_at v (first ∷ items) all zero item is = subst (λ own. ¬ IsUnlawful c h v own) (same_Some first item is) all.0
  lawful_at v (first ∷ items) all (suc i) item is = lawful_at (solo_after c h v first) items all.1 i item is

  -- ---- one item at most, after which the host has few extents and records

  lawful_one : (v : View) (new : List Effect) (items : List Item) → BringsItems c h v new items → IsRoomy (view_after c h v new) → LawfulFrom v items
  lawful_one v new [] brings roomy = tt
  lawful_one v new (item ∷ []) brings roomy = (refused, tt)
    where
      after : IsRoomy (solo_after c h v item)
      after = subst IsRoomy brings.alone roomy

      refused : ¬ IsUnlawful c h v item
      refused (inl many) = absurd (omega (arith, many, after.extents))
      refused (inr (inl many)) = absurd (omega (arith, many, after.records))
      refused (inr (inr beyond)) = brings.few beyond
  lawful_one v new (item ∷ next ∷ more) brings roomy = absurd brings.few

-- ---- the law

module _ (c : Configuration) (sound : IsSound c) where
  is_roomy : (journal : List Entry) → Legal c journal → (h : HostId) → IsRoomy (view_of c h journal)
  is_roomy journal legal h = record { extents = (legal_is_sound c sound journal legal).stands.few h; records = few_records c journal legal h }

  lawful_from : (journal : List Entry) → Legal c journal → (h : HostId) → h < c.hosts → LawfulFrom c h (first_view c) (own_items h journal)
  lawful_from = by_steps c (λ journal. (h : HostId) → h < c.hosts → LawfulFrom c h (first_view c) (own_items h journal)) (λ h known. tt)
      (λ before e legal lawful meets h known.
      let step : BringsItems c h (view_of c h before) e.effects (items_of h e) =
      steps_alone c sound before (legal_is_sound c sound before legal) h known ((legal_logs c before legal).history (LogId.Host h)).sound e meets in
      let roomy : IsRoomy (view_after c h (view_of c h before) e.effects) = subst IsRoomy (view_of-push c h before e) (is_roomy (before ++ e ∷ []) (Each-push (Meets c) before e legal meets) h) in
      subst (LawfulFrom c h (first_view c)) (sym (own_items-push h before e))
      (lawful-append c h (first_view c) (own_items h before) (items_of h e) (lawful h known)
      (subst (λ v. LawfulFrom c h v (items_of h e)) (all_see_alone c sound before legal h known) (lawful_one c h (view_of c h before) e.effects (items_of h e) step roomy))))

  pub are_lawful : (journal : List Entry) → Legal c journal → (h : HostId) → h < c.hosts → AreLawful c h (own_items h journal)
  are_lawful journal legal h known = lawful_at c h (first_view c) (own_items h journal) (lawful_from journal legal h known)
