-- The table of open tags is right after the effects of every legal step.
use Rattle.std.proofs.Common.{◌≡◌, ℕ, Bool, true, false, List, [], ◌∷◌, ◌++◌, Some, None, flat_map, append_assoc, inl, inr, refl, sym, subst, ◌∙◌, arith}
use Rattle.std.{specs.Prelude.find, specs.List.AllByRecursion, specs.List.list_all, proofs.lemmas.Bool.false≢true}
use Rattle.cci_codec.specs.dcd_base.specs.{Words.has_tag, declared.capacity.Extent.Extent, declared.capacity.Tag.Tag, declared.ids.HostId.HostId, declared.steps.LogId.LogId}
use Rattle.fm_payloads.specs.declared.requests.FmRequest.{FmRequest}
use Rattle.extent_list.specs.{HostLists.Lists, media_map.proofs.PlaceLemmas.found_at, media_map.proofs.PlaceLemmas.has, media_map.specs.Places.has_address}
use Rattle.extent_list.specs.media_map.specs.region_config.specs.{Configurations.Configuration, Granules.region_spec, Granules.regions_of, Soundness.IsSound}
use Rattle.host_payloads.specs.declared.requests.HostRequest.{HostRequest}
use Rattle.journal_core.specs.{Entries.effects, declared.entries.Entry.Entry, declared.outcome.Effect.Effect}
use Rattle.tag_refs.specs.{Tables.has_entry, declared.entries.TagEntry.TagEntry}
use Rattle.device_rules.proofs.{AddSteps.IsPicked, AddSteps.picked, Adding.IsAdded, Adding.added, Adding.row_of, LegalSound.legal_is_sound, LegalSteps.Cases, LegalSteps.step_case}
use Rattle.device_rules.proofs.{OfferSteps.opened_table, OfferSteps.private_table, OfferSteps.shared_now, OfferSteps.shared_tags, OneOffer.IsShared, TagEntries.table_live}
use Rattle.device_rules.specs.{Adding.offered, Answers.host_outcome, Answers.manager_outcome, Answers.manager_rule, Answers.scrubbed, Answers.zeroes, Legal.Legal, Legal.Meets, Logs.log_of}
use Rattle.device_rules.specs.{Outcomes.Outcome, Outcomes.effects_of, Outcomes.entered_all, Pictures.picture_of, ReleaseOutcomes.is_cleaning, ReleaseOutcomes.is_forced, ReleaseOutcomes.removed}
use Rattle.device_rules.specs.{ResponseOutcomes.unhold, Standing.Sound, TagTable.IsTable, Tags.is_referenced, Tags.open_tags, Views.View, Views.view_of}
use Rattle.device_rules.proofs.EffectKinds.{PassClearing, PassHeld, PassLists, PassRecords, any_log, clear_passes, host_passes, outcome_passes, reference_passes, removals_pass, tells_any, told_passes, unhold_passes, zeroes_pass}
use Rattle.device_state.proofs.TablesEntered.{Agree, agree_by, all_right, is_no_offer, told_right}
use Rattle.device_state.specs.{EnteredLists.all_lists_by, EnteredLists.lists_by, EnteredLists.table_by, EnteredLists.tag_offered, EnteredLists.tags_over, Updates.IsOfDevice}

-- ---- an offer

module _ (c : Configuration) (sound : IsSound c) (past : List Effect) (now : Sound c (picture_of c past)) (h policy r : ℕ) (tag : Tag) (pick : IsPicked c past policy r tag)
    (lists : HostId → Lists) (agree : Agree c past lists) (entries : List TagEntry) (table : IsTable c past entries) where
  pub offer_right : (new : List Extent) → IsAdded c (picture_of c past) h r tag new → IsTable c (past ++ Effect.Offer h new ∷ []) (table_by c lists entries (Effect.Offer h new))
  offer_right [] a = absurd (omega (arith, a.some))
  offer_right (x ∷ xs) a =
      let m = a.offer.made.0 in
      let found : find (has_address c h x.start) (regions_of c) ≡ Some r =
      found_at c h x.start r sound a.offer.host m.known (has c h x.start r m.from (omega (arith, m.some, m.within))) in
      subst (IsTable c (past ++ Effect.Offer h (x ∷ xs) ∷ []))
      (sym (λ i. tag_offered c h (lists_by c h (lists h) (Effect.Offer h (x ∷ xs))) (a.offer.marked.0 i) (x ∷ xs) (found i) entries))
      (by (region_spec c r).shareable refl (has_entry tag entries) refl)
    where
      shut : (region_spec c r).shareable ≡ false → has_tag (open_tags c past) tag ≡ false
      shut private = elim a.way [
        | inl fresh ↦ fresh.closed
        | inr shared ↦ absurd (false≢true (sym private ∙ shared.shareable))
      ]

      is_shared : has_tag (open_tags c past) tag ≡ true → IsShared c (picture_of c past) h r tag (x ∷ xs)
      is_shared open_tag = elim a.way [
        | inl fresh ↦ absurd (false≢true (sym fresh.closed ∙ open_tag))
        | inr shared ↦ shared
      ]

      by : (shareable : Bool) → (region_spec c r).shareable ≡ shareable → (live : Bool) → has_entry tag entries ≡ live →
          IsTable c (past ++ Effect.Offer h (x ∷ xs) ∷ []) (tag_offered c h (lists_by c h (lists h) (Effect.Offer h (x ∷ xs))) tag (x ∷ xs) (Some r) entries)
      by false private live is_live = rw private (private_table c sound past now h r tag x xs a entries table (shut private) private)
      by true shared true is_live =
          let open_tag : has_tag (open_tags c past) tag ≡ true = table_live c past entries table tag ∙ is_live in
          let s = is_shared open_tag in
          let of_region = pick.of_region open_tag in
          rw (shared, is_live) (told_right c past lists agree entries table h a.offer.host (Effect.Offer h (x ∷ xs)) (tag ∷ [])
          (shared_now c sound past now h r tag x xs a s of_region) (shared_tags c sound past now h r tag x xs a s of_region))
      by true shared false is_dead =
          let closed_tag : has_tag (open_tags c past) tag ≡ false = table_live c past entries table tag ∙ is_dead in
          rw (shared, is_dead) (opened_table c sound past now h r tag x xs a entries table shared closed_tag (pick.unused shared closed_tag))

-- ---- each step

module _ (c : Configuration) (sound : IsSound c) (before : List Entry) (legal : Legal c before) where
  -- The table follows these effects.
  abbrev pub Follows : List Effect → Type 0
  Follows new = (lists : HostId → Lists) (entries : List TagEntry) → Agree c (effects before) lists → IsTable c (effects before) entries →
      AllByRecursion (IsOfDevice c) new → IsTable c (effects before ++ new) (tags_over c lists entries new)

  no_offers : (new : List Effect) → list_all is_no_offer new ≡ true → Follows new
  no_offers new none lists entries agree table each = all_right c (effects before) lists entries new none each agree table

  records : (l : LogId) → PassRecords is_no_offer l
  records l = record { logged = λ event. refl; missed = refl }

  held : (h : HostId) → PassHeld is_no_offer h
  held h = record { hold = λ kind xs. refl; unhold = λ kind. refl }

  abbrev past : List Effect
  past = effects before

  abbrev views : HostId → View
  views h = view_of c h before

  outcome : (o : Outcome) → list_all is_no_offer o.changes ≡ true → Follows (effects_of c (effects before) o)
  outcome o changes = no_offers (effects_of c past o) (outcome_passes is_no_offer any_log (λ l any. records l) (λ t. refl) c past o changes (tells_any o.log_records))

  host_follows : (h : HostId) (q : HostRequest) → Follows (effects_of c (effects before) (host_outcome c h (view_of c h before) q))
  host_follows h q = no_offers (effects_of c past (host_outcome c h (views h) q))
      (host_passes is_no_offer h (λ t. refl) (records LogId.Manager) (record { cleared = λ n. refl; reset = refl }) (held h)
      (record { answer = λ xs. refl; take = λ run. refl; leave = λ run. refl }) c past (views h) q)

  add_follows : (host policy r bytes : ℕ) (tag : Tag) (list : List Extent) → manager_rule c (effects before) (λ k. view_of c k before) (FmRequest.Add host policy r bytes tag list) ≡ None →
      Follows (effects_of c (effects before) (manager_outcome c (effects before) (λ k. view_of c k before) (FmRequest.Add host policy r bytes tag list)))
  add_follows host policy r bytes tag list row lists entries agree table each =
      let now = legal_is_sound c sound before legal in
      let rules = row_of c before host policy r bytes tag list row in
      let new : List Extent = offered c past host policy r bytes tag list in
      let o : Outcome = manager_outcome c past views (FmRequest.Add host policy r bytes tag list) in
      let told : List Effect = flat_map (λ n. entered_all n.0 (log_of n.0 past) n.1) o.log_records in
      let quiet : list_all is_no_offer told ≡ true = told_passes is_no_offer any_log (λ l any. records l) past o.log_records (tells_any o.log_records) in
      let first = offer_right c sound past now host policy r tag (picked c past now host policy r bytes tag list rules) lists agree entries table new
      (added c sound past now host r tag bytes list policy rules) in
      subst (λ es. IsTable c es (tags_over c (all_lists_by c lists (Effect.Offer host new)) (table_by c lists entries (Effect.Offer host new)) told)) (append_assoc past (Effect.Offer host new ∷ []) told)
      (all_right c (past ++ Effect.Offer host new ∷ []) (all_lists_by c lists (Effect.Offer host new)) (table_by c lists entries (Effect.Offer host new)) told quiet each.1
      (agree_by c past lists (Effect.Offer host new) agree) first)

  manager_follows : (q : FmRequest) → manager_rule c (effects before) (λ k. view_of c k before) q ≡ None → Follows (effects_of c (effects before) (manager_outcome c (effects before) (λ k. view_of c k before) q))
  manager_follows (FmRequest.GetEvents log) row = outcome (manager_outcome c past views (FmRequest.GetEvents log)) refl
  manager_follows (FmRequest.ClearEvents number all handles) row = outcome (manager_outcome c past views (FmRequest.ClearEvents number all handles))
      (clear_passes is_no_offer LogId.Manager (record { cleared = λ n. refl; reset = refl }) number (log_of LogId.Manager past) all handles)
  manager_follows FmRequest.GetInfo row = outcome (manager_outcome c past views FmRequest.GetInfo) refl
  manager_follows (FmRequest.GetRegions host count first) row = outcome (manager_outcome c past views (FmRequest.GetRegions host count first)) refl
  manager_follows (FmRequest.SetRegion r sanitize size) row = outcome (manager_outcome c past views (FmRequest.SetRegion r sanitize size)) refl
  manager_follows (FmRequest.GetExtentLists host count first) row = outcome (manager_outcome c past views (FmRequest.GetExtentLists host count first)) refl
  manager_follows (FmRequest.Add host policy r bytes tag list) row = add_follows host policy r bytes tag list row
  manager_follows (FmRequest.Remove host flags r bytes tag list) row = outcome (manager_outcome c past views (FmRequest.Remove host flags r bytes tag list))
      (removals_pass is_no_offer host (λ run. refl) (λ run. refl) c (is_forced flags) (is_cleaning flags) (removed (views host).accepted flags tag list))
  manager_follows (FmRequest.AddReference tag) row = outcome (manager_outcome c past views (FmRequest.AddReference tag)) (reference_passes is_no_offer tag refl (is_referenced tag past))
  manager_follows (FmRequest.RemoveReference tag) row = outcome (manager_outcome c past views (FmRequest.RemoveReference tag)) refl
  manager_follows (FmRequest.ListTags first count) row = outcome (manager_outcome c past views (FmRequest.ListTags first count)) refl

  -- The table is right after the effects of each legal step.
  pub table_follows : (e : Entry) → Meets c before e → (lists : HostId → Lists) (entries : List TagEntry) → Agree c (effects before) lists → IsTable c (effects before) entries →
      AllByRecursion (IsOfDevice c) e.effects → IsTable c (effects before ++ e.effects) (tags_over c lists entries e.effects)
  table_follows e meets =
      step_case c before Follows (record {
        nothing = no_offers [] refl;
        refused = λ h kind xs. no_offers (unhold h kind xs) (unhold_passes is_no_offer h (held h) kind xs);
        host = λ h q known rule. host_follows h q;
        manager = λ q rule. manager_follows q rule;
        scrub = λ n. no_offers (zeroes c (scrubbed c past n)) (zeroes_pass is_no_offer (λ run. refl) c (scrubbed c past n));
      }) e meets
