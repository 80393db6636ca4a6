-- After every legal journal the open tags are those that live where their granules are shareable.
use Rattle.std.proofs.Common.{◌≡◌, ℕ, ◌<◌, true, false, not, ◌==◌, List, [], ◌∷◌, ◌++◌, length, Some, None, refl, ap, sym, subst, ◌∙◌, arith, append_assoc, append-nil}
use Rattle.std.proofs.lemmas.Bool.{and_from, and_parts, false≢true, ltb-true, not-false}
use Rattle.std.specs.{List.AllByRecursion, List.list_all, List.enumerate_from, Prelude.Option, Prelude.IsTrue, declared.result.Result.Result}
use Rattle.std.specs.declared.result.Result.TheVariants.{Ok, Err}
use Rattle.cci_codec.specs.dcd_base.specs.{Words.has_tag, declared.capacity.Extent.Extent, declared.capacity.Tag.Tag}
use Rattle.cci_codec.specs.dcd_base.specs.declared.{faults.PayloadFault.PayloadFault as ManagerFault, faults.PayloadFault.PayloadFault as HostFault, ids.HostId.HostId, steps.Actor.Actor}
use Rattle.cci_codec.specs.dcd_base.specs.declared.steps.LogId.{LogId}
use Rattle.extent_list.specs.{dcd_codes.specs.declared.rules.Rule.Rule, media_map.specs.Places.region_at, media_map.specs.region_config.specs.Configurations.Configuration}
use Rattle.extent_list.specs.media_map.specs.region_config.specs.{Granules.region_spec, Soundness.IsSound}
use Rattle.fm_payloads.specs.{declared.requests.FmRequest.FmRequest, ManagerPayloads.manager_request}
use Rattle.host_payloads.specs.{declared.requests.HostRequest.HostRequest, HostPayloads.host_request}
use Rattle.journal_core.{proofs.JournalSteps.effects-push, specs.Entries.EachFrom, specs.Entries.effects, specs.Entries.fits, specs.declared.acts.Act.Act, specs.declared.entries.Entry.Entry}
use Rattle.journal_core.specs.declared.outcome.{Effect.Effect, HeldKind.HeldKind}
use Rattle.device_rules.proofs.{Holding.first_is_sound, Holding.present_whole, Homes.made_region, LeavingSteps.both_ways, LegalSound.clear_quiet, LegalSound.dropped_quiet, LegalSound.entry_keeps}
use Rattle.device_rules.proofs.{OpenLive.IsOpened, OpenLive.outcome_opened, Overlaps.not_broken, Quiet.hold_quiet, Quiet.is_quiet, Quiet.zeroes_quiet}
use Rattle.device_rules.specs.{Adding.add_outcome, Adding.chosen, Adding.is_free_now, Adding.offered, Adding.present, Legal.Legal, Legal.Meets, Legal.right_answer, Logs.log_of}
use Rattle.device_rules.specs.{Outcomes.Outcome, Outcomes.effects_of, Pictures.Picture, Pictures.lives, Pictures.picture_of}
use Rattle.device_rules.specs.ReleaseOutcomes.{give_back_outcome, is_cleaning, is_forced, remove_outcome, removed}
use Rattle.device_rules.specs.{ResponseOutcomes.respond_outcome, Standing.IsMade, Standing.IsOpen, Standing.Sound, Standing.Stands}
use Rattle.device_rules.specs.TagCommands.{add_reference_outcome, remove_reference_outcome}
use Rattle.device_rules.specs.{Tags.is_in_shareable, Tags.is_live_shareable, Tags.is_referenced, Tags.last_offer, Tags.open_tags, Tags.tag_region, Tags.tag_runs, Views.View, Views.view_of}
use Rattle.device_rules.specs.Answers.{dropped, effects_with, host_outcome, host_result, host_rule, manager_outcome, manager_result, manager_rule, scrubbed, unless, zeroes}
use Rattle.device_rules.proofs.OpenedJournals.{added_opened, dropped_opened, each_tagged, given_opened, quiet_opened, quiet_outcome_opened, reference_opened, removed_opened, responded_opened}

module _ (c : Configuration) (sound : IsSound c) (journal : List Entry) (before : Sound c (picture_of c (effects journal))) (opened : IsOpened c (picture_of c (effects journal))) where
  abbrev past : List Effect
  past = effects journal

  nothing : IsOpened c (picture_of c (effects journal ++ []))
  nothing = quiet_opened c past [] refl opened

  quiet : (o : Outcome) → list_all is_quiet o.changes ≡ true → IsOpened c (picture_of c (effects journal ++ effects_of c (effects journal) o))
  quiet o is = quiet_outcome_opened c past o is opened

  module _ (h : HostId) (host : h < c.hosts) where
    abbrev v : View
    v = view_of c h journal

    refused : (opcode : ℕ) → IsOpened c (picture_of c (effects journal ++ dropped h (view_of c h journal) opcode))
    refused opcode = quiet_opened c past (dropped h v opcode) (dropped_quiet h v (opcode == 0x4802) (opcode == 0x4803)) opened

    answered_host : (request : HostRequest) → host_rule c h (view_of c h journal) request ≡ None → IsOpened c (picture_of c (effects journal ++ effects_of c (effects journal) (host_outcome c h (view_of c h journal) request)))
    answered_host (HostRequest.GetEvents log) row = quiet (host_outcome c h v (HostRequest.GetEvents log)) refl
    answered_host (HostRequest.ClearEvents log all handles) row = quiet (host_outcome c h v (HostRequest.ClearEvents log all handles)) (clear_quiet (LogId.Host h) v.log handles (not (log == 4)) all)
    answered_host (HostRequest.GetConfiguration count first) row = quiet (host_outcome c h v (HostRequest.GetConfiguration count first)) refl
    answered_host (HostRequest.GetExtents count first) row = quiet (host_outcome c h v (HostRequest.GetExtents count first)) refl
    answered_host (HostRequest.AddResponse true list) row = quiet (respond_outcome c h v true list) (hold_quiet h HeldKind.Responses list)
    answered_host (HostRequest.AddResponse false list) row = outcome_opened c past (respond_outcome c h v false list) (responded_opened c sound (picture_of c past) before h host v.offers refl v.responses list row opened)
    answered_host (HostRequest.GiveBack true list) row = quiet (give_back_outcome c h v true list) (hold_quiet h HeldKind.Releases list)
    answered_host (HostRequest.GiveBack false list) row = outcome_opened c past (give_back_outcome c h v false list) (given_opened c (picture_of c past) h v.releases list opened)

    by_rule : (opcode : ℕ) (request : HostRequest) (found : Option Rule) → host_rule c h (view_of c h journal) request ≡ found
        → IsOpened c (picture_of c (effects journal ++ effects_with c (effects journal) (dropped h (view_of c h journal) opcode) (unless found (host_outcome c h (view_of c h journal) request))))
    by_rule opcode request None row = answered_host request row
    by_rule opcode request (Some rule) row = refused opcode

    by_request : (opcode : ℕ) (read : Result HostRequest HostFault) → IsOpened c (picture_of c (effects journal ++ effects_with c (effects journal) (dropped h (view_of c h journal) opcode) (host_result c h (view_of c h journal) read)))
    by_request opcode (Ok request) = by_rule opcode request (host_rule c h v request) refl
    by_request opcode (Err fault) = refused opcode

  answered_manager : (request : FmRequest) → manager_rule c (effects journal) (λ h. view_of c h journal) request ≡ None → IsOpened c (picture_of c (effects journal ++ effects_of c (effects journal) (manager_outcome c (effects journal) (λ h. view_of c h journal) request)))
  answered_manager (FmRequest.GetEvents log) row = quiet (manager_outcome c past (λ h. view_of c h journal) (FmRequest.GetEvents log)) refl
  answered_manager (FmRequest.ClearEvents log all handles) row = quiet (manager_outcome c past (λ h. view_of c h journal) (FmRequest.ClearEvents log all handles)) (clear_quiet LogId.Manager (log_of LogId.Manager past) handles (not (log == 4)) all)
  answered_manager FmRequest.GetInfo row = quiet (manager_outcome c past (λ h. view_of c h journal) FmRequest.GetInfo) refl
  answered_manager (FmRequest.GetRegions host count first) row = quiet (manager_outcome c past (λ h. view_of c h journal) (FmRequest.GetRegions host count first)) refl
  answered_manager (FmRequest.SetRegion r sanitize size) row = outcome_opened c past (manager_outcome c past (λ h. view_of c h journal) (FmRequest.SetRegion r sanitize size)) (λ t alive shared. opened t alive shared)
  answered_manager (FmRequest.GetExtentLists host count first) row = quiet (manager_outcome c past (λ h. view_of c h journal) (FmRequest.GetExtentLists host count first)) refl
  answered_manager (FmRequest.Add host policy r bytes tag list) row =
      outcome_opened c past (add_outcome c past (λ h. view_of c h journal) host policy r bytes tag list)
      (added_opened c (picture_of c past) host tag (offered c past host policy r bytes tag list)
      (each_tagged (region_spec c r).shareable tag (enumerate_from 1 (chosen (present c past) (is_free_now c past) (tag_runs c (last_offer tag past)) host policy r bytes list))) opened)
  answered_manager (FmRequest.Remove host flags r bytes tag list) row =
      outcome_opened c past (remove_outcome c (λ h. view_of c h journal) host flags tag list)
      (removed_opened c (picture_of c past) host (is_forced flags) (is_cleaning flags) (removed (view_of c host journal).accepted flags tag list) opened)
  answered_manager (FmRequest.AddReference tag) row =
      outcome_opened c past (add_reference_outcome past tag)
      (reference_opened c (picture_of c past) tag (is_referenced tag past) (not-false (has_tag (open_tags c past) tag) (not_broken (not (has_tag (open_tags c past) tag)) Rule.NoSuchTag row)) opened)
  answered_manager (FmRequest.RemoveReference tag) row = outcome_opened c past (remove_reference_outcome tag) (dropped_opened c (picture_of c past) tag opened)
  answered_manager (FmRequest.ListTags first count) row = quiet (manager_outcome c past (λ h. view_of c h journal) (FmRequest.ListTags first count)) refl

  by_manager_rule : (request : FmRequest) (found : Option Rule) → manager_rule c (effects journal) (λ h. view_of c h journal) request ≡ found
      → IsOpened c (picture_of c (effects journal ++ effects_with c (effects journal) [] (unless found (manager_outcome c (effects journal) (λ h. view_of c h journal) request))))
  by_manager_rule request None row = answered_manager request row
  by_manager_rule request (Some rule) row = nothing

  by_manager_request : (read : Result FmRequest ManagerFault) → IsOpened c (picture_of c (effects journal ++ effects_with c (effects journal) [] (manager_result c journal read)))
  by_manager_request (Ok request) = by_manager_rule request (manager_rule c past (λ h. view_of c h journal) request) refl
  by_manager_request (Err fault) = nothing

  answer_opened : (actor : Actor) (act : Act) → IsTrue (fits c.hosts actor act) → IsOpened c (picture_of c (effects journal ++ (right_answer c journal actor act).1))
  answer_opened (Actor.Host h) (Act.Load d) allowed = nothing
  answer_opened (Actor.Host h) (Act.Store d value) allowed = nothing
  answer_opened (Actor.Host h) (Act.Command q) allowed = by_request h (ltb-true h c.hosts allowed) q.opcode (host_request q.opcode q.payload)
  answer_opened (Actor.Host h) (Act.Scrub n) allowed = nothing
  answer_opened Actor.Manager (Act.Load d) allowed = nothing
  answer_opened Actor.Manager (Act.Store d value) allowed = nothing
  answer_opened Actor.Manager (Act.Command q) allowed = by_manager_request (manager_request q.opcode q.payload)
  answer_opened Actor.Manager (Act.Scrub n) allowed = nothing
  answer_opened Actor.Sanitizer (Act.Load d) allowed = nothing
  answer_opened Actor.Sanitizer (Act.Store d value) allowed = nothing
  answer_opened Actor.Sanitizer (Act.Command q) allowed = nothing
  answer_opened Actor.Sanitizer (Act.Scrub n) allowed = quiet_opened c past (zeroes c (scrubbed c past n)) (zeroes_quiet c (scrubbed c past n)) opened

-- ---- a journal

entry_opened : (c : Configuration) → IsSound c → (journal : List Entry) (e : Entry) → Sound c (picture_of c (effects journal)) → IsOpened c (picture_of c (effects journal)) → Meets c journal e → IsOpened c (picture_of c (effects (journal ++ e ∷ [])))
entry_opened c sound journal e before opened meets =
    let told : effects (journal ++ e ∷ []) ≡ effects journal ++ (right_answer c journal e.actor e.act).1 = effects-push journal e ∙ ap (λ (new : List Effect). effects journal ++ new) meets.effects in
    subst (λ past. IsOpened c (picture_of c past)) (sym told) (answer_opened c sound journal before opened e.actor e.act meets.allowed)

opened_from : (c : Configuration) → IsSound c → (front journal : List Entry) → Sound c (picture_of c (effects front)) → IsOpened c (picture_of c (effects front)) → EachFrom front (Meets c) journal → IsOpened c (picture_of c (effects (front ++ journal)))
opened_from c sound front [] before opened legal = subst (λ j. IsOpened c (picture_of c (effects j))) (sym (append-nil front)) opened
opened_from c sound front (e ∷ journal) before opened legal =
    subst (λ j. IsOpened c (picture_of c (effects j))) (append_assoc front (e ∷ []) journal)
    (opened_from c sound (front ++ e ∷ []) journal (entry_keeps c sound front e before legal.0) (entry_opened c sound front e before opened legal.0) legal.1)

-- nothing is in a shareable region before any offer
pub legal_is_opened : (c : Configuration) → IsSound c → (journal : List Entry) → Legal c journal → IsOpened c (picture_of c (effects journal))
legal_is_opened c sound journal legal = opened_from c sound [] journal (first_is_sound c sound) (λ t alive shared. absurd (false≢true shared)) legal

-- an open tag stands for extents of a shareable region
open_shared : (c : Configuration) → IsSound c → (p : Picture) → Stands c p → (t : Tag) → IsOpen c p t → is_in_shareable c (tag_region c (p.last t)) ≡ true
open_shared c sound p s t a = by_extents a.extents a.some a.each a.offer
  where
    by_extents : (xs : List Extent) → 0 < length xs → AllByRecursion (IsMade c (p.block a.region) a.host a.region) xs → p.last t ≡ Some (a.host, xs) → is_in_shareable c (tag_region c (p.last t)) ≡ true
    by_extents [] some each last = absurd (omega (arith, some))
    by_extents (x ∷ xs) some each last =
        let m = each.0 in
        let at : region_at c a.host x.start ≡ a.region = made_region c a.host sound a.known (p.block a.region) a.region x (present_whole c sound p s a.region m.known) m in
        ap (λ o. is_in_shareable c (tag_region c o)) last ∙ ap (λ r. (region_spec c r).shareable) at ∙ a.shareable

-- The open tags are the live shareable ones.
pub open_is_live : (c : Configuration) → IsSound c → (past : List Effect) → Sound c (picture_of c past) → IsOpened c (picture_of c past) → (t : Tag) → has_tag (open_tags c past) t ≡ is_live_shareable c t past
open_is_live c sound past now opened t =
    let p : Picture = picture_of c past in
    both_ways (has_tag (open_tags c past) t) (is_live_shareable c t past)
    (λ e. and_from (lives c p t) (is_in_shareable c (tag_region c (p.last t))) (now.live t e) (open_shared c sound p now.stands t (now.stands.opened t e)))
    (λ e. let parts = and_parts (lives c p t) (is_in_shareable c (tag_region c (p.last t))) e in opened t parts.0 parts.1)
