-- Each step of a legal journal keeps a granule clean, command by command.
use Rattle.std.proofs.Common.{◌≡◌, ℕ, ◌%◌, ◌<◌, true, false, List, [], ◌∷◌, ◌++◌, length, map, None, refl, sym, ap, subst, ◌∙◌}
use Rattle.std.specs.{Prelude.flat_map, List.AllByRecursion, List.list_all}
use Rattle.dcd_base.specs.{Words.has_granule, declared.capacity.Extent.Extent, declared.capacity.Tag.Tag, declared.ids.HostId.HostId, declared.steps.LogId.LogId}
use Rattle.extent_list.specs.{ExtentLists.is_in, ExtentLists.marked, Listing.too_many_listed, media_map.specs.Places.region_at, media_map.specs.Places.run_of}
use Rattle.extent_list.specs.media_map.specs.region_config.specs.{Configurations.Configuration, Granules.granule_size, Granules.region_of, Granules.region_spec, Granules.with_blocks}
use Rattle.extent_list.specs.media_map.specs.region_config.specs.Soundness.{IsSound}
use Rattle.fm_payloads.specs.declared.requests.FmRequest.{FmRequest}
use Rattle.host_payloads.specs.declared.requests.HostRequest.{HostRequest}
use Rattle.journal_core.specs.{Entries.effects, declared.entries.Entry.Entry, declared.outcome.Effect.Effect, declared.outcome.HeldKind.HeldKind}
use Rattle.offer_core.specs.{Offerings.oldest_of, Responses.response_list_rule, Responses.respond_rule}
use Rattle.device_rules.proofs.{Adding.added, Adding.row_of, CutSteps.in_has}
use Rattle.device_rules.proofs.EffectKinds.{PassClearing, PassHeld, clear_passes, hold_passes, reference_passes, removals_pass, unhold_passes}
use Rattle.device_rules.proofs.{Holding.home_made, Holding.present_whole, Homes.made_of_region, Leaving.both_pass, Leaving.map_passes, LegalSteps.Cases, LegalSteps.step_case}
use Rattle.device_rules.proofs.{ListSteps.any-map, ListSteps.each-at, ListSteps.each-back, ListSteps.each-both, ListSteps.each-change, ListSteps.each-front, OneOffer.reaches, Responding.answer_of}
use Rattle.device_rules.{proofs.RunEffects.in_extents, proofs.StatusOutcomes.unhold-quiet, specs.Adding.add_outcome, specs.Adding.add_rule, specs.Adding.offered}
use Rattle.device_rules.specs.{Answers.host_outcome, Answers.host_rule, Answers.manager_outcome, Answers.manager_rule, EventCommands.clear_outcome, Hosts.offers_of, Invariants.Holdings, Legal.Meets}
use Rattle.device_rules.specs.{Logs.log_of, Outcomes.Outcome, Outcomes.effects_of, Pictures.Picture, Pictures.extents_at, Pictures.picture_of}
use Rattle.device_rules.specs.ReleaseOutcomes.{give_back_outcome, is_cleaning, is_forced, remove_outcome, removed}
use Rattle.device_rules.specs.{ResponseOutcomes.respond_changes, ResponseOutcomes.respond_outcome, ResponseOutcomes.unhold, Settings.set_outcome}
use Rattle.device_rules.specs.{Standing.IsHome, Standing.IsMade, Standing.Sound, Standing.Stands, TagCommands.add_reference_outcome, TagCommands.remove_reference_outcome, Tags.is_referenced}
use Rattle.device_rules.specs.Views.{View, view_of}
use Rattle.selection.proofs.Prescribed.{neither}
use Rattle.isolation_laws.proofs.{CalmEffects.is_calm, CleanSteps.KeepsClean, CleanSteps.keeps_answer, CleanSteps.keeps_calm, CleanSteps.keeps_offer, CleanSteps.keeps_outcome, CleanSteps.keeps_scrub}
use Rattle.isolation_laws.proofs.OfferedFree.{free_untaken, offered_free}

calm_lists : (h : HostId) → PassHeld is_calm h
calm_lists h = record { hold = λ kind xs. refl; unhold = λ kind. refl }

calm_clearing : (l : LogId) → PassClearing is_calm l
calm_clearing l = record { cleared = λ n. refl; reset = refl }

module _ (c : Configuration) (sound : IsSound c) (before : List Entry) (now : Sound c (picture_of c (effects before))) (kept : Holdings c before) (g : ℕ) where
  abbrev p : Picture
  p = picture_of c (effects before)

  s : Stands c (picture_of c (effects before))
  s = now.stands

  whole : (r : ℕ) → r < length c.regions → p.block r % granule_size c r ≡ 0
  whole = present_whole c sound (picture_of c (effects before)) s

  abbrev Keeps : List Effect → Type 0
  Keeps new = KeepsClean c g (effects before) new

  calm_command : (o : Outcome) → list_all is_calm o.changes ≡ true → Keeps (effects_of c (effects before) o)
  calm_command o calm = keeps_outcome c g (effects before) o (keeps_calm c g (effects before) o.changes calm)

  -- ---- a host's commands

  module _ (h : HostId) (host : h < c.hosts) where
    abbrev IsMadeHere : Extent → Type 0
    IsMadeHere x = IsMade c (p.block (region_at c h x.start)) h (region_at c h x.start) x

    -- the offered extents are made of blocks
    offers_made : AllByRecursion IsMadeHere (flat_map (λ xs. xs) (p.offers h))
    offers_made = each-back IsMadeHere (p.accepted h) (flat_map (λ xs. xs) (p.offers h)) (each-change (IsHome c p h) IsMadeHere (λ x m. home_made c sound p s h x host m) (extents_at p h) (s.home h))

    -- what lies in extents of a list has granules of the list alone
    inside_has : (owners xs : List Extent) → AllByRecursion IsMadeHere owners → AllByRecursion IsMadeHere xs → AllByRecursion (λ x. is_in owners x ≡ true) xs → in_extents c h xs g ≡ true → in_extents c h owners g ≡ true
    inside_has owners xs made_owners made inside here =
        let found = each-at (λ x. IsMadeHere x × (is_in owners x ≡ true)) (λ x. has_granule (run_of c h x) g) xs
        (each-both IsMadeHere (λ x. is_in owners x ≡ true) (λ x. IsMadeHere x × (is_in owners x ≡ true)) (λ x m i. (m, i)) xs made inside)
        (sym (any-map (λ run. has_granule run g) (run_of c h) xs) ∙ here) in
        any-map (λ run. has_granule run g) (run_of c h) owners ∙ in_has c h sound host p.block whole found.0 found.2.0 owners made_owners found.2.1 g found.1

    responded : (offers : List (List Extent)) → offers_of h (effects before) ≡ offers → (list : List Extent) →
        respond_rule (with_blocks c (view_of c h before).block) h (length (view_of c h before).accepted) offers (view_of c h before).responses false list ≡ None →
        Keeps (respond_changes c h offers (view_of c h before).responses false list)
    responded [] is list row = keeps_calm c g (effects before) _ (both_pass is_calm (unhold h HeldKind.Responses (view_of c h before).responses) [] (unhold_passes is_calm h (calm_lists h) HeldKind.Responses (view_of c h before).responses) refl)
    responded (offer ∷ later) is list row =
        let v : View = view_of c h before in
        let all : List Extent = v.responses ++ list in
        let rules = neither (too_many_listed all) (response_list_rule (with_blocks c v.block) h (length v.accepted) (offer ∷ later) all) row in
        let a = answer_of c sound p s h host offer later all rules.1 in
        let offer_made : AllByRecursion IsMadeHere offer = each-front IsMadeHere offer (flat_map (λ xs. xs) later) (subst (λ offers. AllByRecursion IsMadeHere (flat_map (λ xs. xs) offers)) is offers_made) in
        keeps_answer c before kept g (unhold h HeldKind.Responses v.responses) (unhold-quiet h HeldKind.Responses v.responses) (unhold_passes is_calm h (calm_lists h) HeldKind.Responses v.responses)
        h (map (marked offer) (v.responses ++ list)) (v.responses ++ list)
        (λ here. ap (λ offers. in_extents c h (oldest_of offers) g) is ∙ inside_has offer all offer_made a.made a.inside here)

    host_case : (q : HostRequest) → host_rule c h (view_of c h before) q ≡ None → Keeps (effects_of c (effects before) (host_outcome c h (view_of c h before) q))
    host_case (HostRequest.GetEvents log) row = keeps_calm c g (effects before) [] refl
    host_case (HostRequest.GetConfiguration count first) row = keeps_calm c g (effects before) [] refl
    host_case (HostRequest.GetExtents count first) row = keeps_calm c g (effects before) [] refl
    host_case (HostRequest.ClearEvents number all handles) row = calm_command (clear_outcome (LogId.Host h) number (view_of c h before).log all handles)
        (clear_passes is_calm (LogId.Host h) (calm_clearing (LogId.Host h)) number (view_of c h before).log all handles)
    host_case (HostRequest.AddResponse true list) row = calm_command (respond_outcome c h (view_of c h before) true list) (hold_passes is_calm h (calm_lists h) HeldKind.Responses list)
    host_case (HostRequest.AddResponse false list) row = keeps_outcome c g (effects before) (respond_outcome c h (view_of c h before) false list) (responded (offers_of h (effects before)) refl list row)
    host_case (HostRequest.GiveBack true list) row = calm_command (give_back_outcome c h (view_of c h before) true list) (hold_passes is_calm h (calm_lists h) HeldKind.Releases list)
    host_case (HostRequest.GiveBack false list) row =
        let v : View = view_of c h before in
        calm_command (give_back_outcome c h v false list) (both_pass is_calm (unhold h HeldKind.Releases v.releases) _ (unhold_passes is_calm h (calm_lists h) HeldKind.Releases v.releases)
        (map_passes is_calm (λ x. Effect.Leave h (run_of c h x)) (λ x. refl) (v.releases ++ list)))

  -- ---- the manager's commands

  add_case : (h policy r bytes : ℕ) (tag : Tag) (list : List Extent) → add_rule c (effects before) (λ k. view_of c k before) h policy r bytes tag list ≡ None →
      Keeps (effects_of c (effects before) (add_outcome c (effects before) (λ k. view_of c k before) h policy r bytes tag list))
  add_case h policy r bytes tag list rule =
      let past : List Effect = effects before in
      let row = row_of c before h policy r bytes tag list rule in
      let a = added c sound past now h r tag bytes list policy row in
      let new : List Extent = offered c past h policy r bytes tag list in
      keeps_outcome c g past (add_outcome c past (λ k. view_of c k before) h policy r bytes tag list) (keeps_offer c g past h new (λ swept here.
      (let reached : reaches c h new g ≡ true = sym (any-map (λ run. has_granule run g) (run_of c h) new) ∙ here in
      let found = each-at (IsMade c (p.block r) h r) (λ x. has_granule (run_of c h x) g) new a.offer.made reached in
      let at : region_of c g ≡ r = made_of_region c h sound a.offer.host (p.block r) r found.0 (whole r found.2.known) found.2 g found.1 in
      let private : (region_spec c r).shareable ≡ false = sym (ap (λ m. (region_spec c m).shareable) at) ∙ swept.private in
      free_untaken c g past swept.sanitize (offered_free c sound past now h r bytes tag list policy private row g reached))))

  manager_case : (q : FmRequest) → manager_rule c (effects before) (λ k. view_of c k before) q ≡ None → Keeps (effects_of c (effects before) (manager_outcome c (effects before) (λ k. view_of c k before) q))
  manager_case (FmRequest.GetEvents log) row = keeps_calm c g (effects before) [] refl
  manager_case FmRequest.GetInfo row = keeps_calm c g (effects before) [] refl
  manager_case (FmRequest.GetRegions host count first) row = keeps_calm c g (effects before) [] refl
  manager_case (FmRequest.GetExtentLists host count first) row = keeps_calm c g (effects before) [] refl
  manager_case (FmRequest.ListTags first count) row = keeps_calm c g (effects before) [] refl
  manager_case (FmRequest.ClearEvents number all handles) row = calm_command (clear_outcome LogId.Manager number (log_of LogId.Manager (effects before)) all handles)
      (clear_passes is_calm LogId.Manager (calm_clearing LogId.Manager) number (log_of LogId.Manager (effects before)) all handles)
  manager_case (FmRequest.SetRegion r sanitize size) row = calm_command (set_outcome c (λ k. view_of c k before) r size) refl
  manager_case (FmRequest.Add host policy r bytes tag list) row = add_case host policy r bytes tag list row
  manager_case (FmRequest.Remove host flags r bytes tag list) row = calm_command (remove_outcome c (λ k. view_of c k before) host flags tag list)
      (removals_pass is_calm host (λ run. refl) (λ run. refl) c (is_forced flags) (is_cleaning flags) (removed (view_of c host before).accepted flags tag list))
  manager_case (FmRequest.AddReference tag) row = calm_command (add_reference_outcome (effects before) tag) (reference_passes is_calm tag refl (is_referenced tag (effects before)))
  manager_case (FmRequest.RemoveReference tag) row = calm_command (remove_reference_outcome tag) refl

  -- ---- all of them

  cases : Cases c before (KeepsClean c g (effects before))
  cases = record {
    nothing = keeps_calm c g (effects before) [] refl;
    refused = λ h kind xs. keeps_calm c g (effects before) (unhold h kind xs) (unhold_passes is_calm h (calm_lists h) kind xs);
    host = λ h q host row. host_case h host q row;
    manager = manager_case;
    scrub = λ n. keeps_scrub c sound (effects before) s g n;
  }

  pub step_keeps : (e : Entry) → Meets c before e → KeepsClean c g (effects before) e.effects
  step_keeps e meets = step_case c before (KeepsClean c g (effects before)) cases e meets
