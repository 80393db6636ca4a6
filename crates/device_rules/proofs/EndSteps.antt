-- The next entry of a legal journal ends just the tags that lived as shareable ones before it and do not after it.
use Rattle.std.proofs.Common.{◌≡◌, true, ◌&&◌, not, List, [], ◌∷◌, ◌++◌, refl, sym, ap, ◌∙◌}
use Rattle.std.specs.List.{list_all}
use Rattle.cci_codec.specs.dcd_base.specs.{declared.capacity.Tag.Tag, declared.ids.HostId.HostId, declared.steps.LogId.LogId, Words.has_tag}
use Rattle.fm_payloads.specs.declared.requests.FmRequest.{FmRequest}
use Rattle.host_payloads.specs.declared.requests.HostRequest.{HostRequest}
use Rattle.extent_list.specs.media_map.specs.region_config.specs.{Configurations.Configuration, Soundness.IsSound}
use Rattle.journal_core.{specs.declared.entries.Entry.Entry, specs.declared.outcome.Effect.Effect, specs.Entries.effects, proofs.EachSteps.Each-push, proofs.JournalSteps.effects-push}
use Rattle.device_rules.proofs.EffectKinds.{clear_passes, give_back_passes, reference_passes, removals_pass, respond_passes, unhold_passes, zeroes_pass}
use Rattle.device_rules.proofs.{EndEffects.EndsOpen, EndEffects.ends_none, EndEffects.outcome_ends, EndEffects.quiet_ends, LegalSound.legal_is_sound, LegalSteps.Cases, LegalSteps.step_case}
use Rattle.device_rules.{proofs.OpenTags.legal_is_opened, proofs.OpenTags.open_is_live, specs.Answers.host_outcome, specs.Answers.manager_outcome, specs.Answers.scrubbed}
use Rattle.device_rules.specs.{Invariants.EndsWithLife, Legal.Legal, Legal.Meets, Logs.log_of, ReleaseOutcomes.is_cleaning, ReleaseOutcomes.is_forced, ReleaseOutcomes.removed}
use Rattle.device_rules.specs.{Tags.is_live_shareable, Tags.is_referenced, Tags.open_tags, Views.View, Views.view_of}

-- ---- the changes of a command end no tag

pub host_changes : (c : Configuration) (h : HostId) (v : View) (q : HostRequest) → list_all ends_none (host_outcome c h v q).changes ≡ true
host_changes c h v (HostRequest.GetEvents log) = refl
host_changes c h v (HostRequest.ClearEvents number all handles) = clear_passes ends_none (LogId.Host h) (record { cleared = λ n. refl; reset = refl }) number v.log all handles
host_changes c h v (HostRequest.GetConfiguration count first) = refl
host_changes c h v (HostRequest.GetExtents count first) = refl
host_changes c h v (HostRequest.AddResponse more list) =
    respond_passes ends_none h (record { hold = λ kind xs. refl; unhold = λ kind. refl }) (record { answer = λ xs. refl; take = λ run. refl; leave = λ run. refl }) c v.offers v.responses more list
host_changes c h v (HostRequest.GiveBack more list) =
    give_back_passes ends_none h (record { hold = λ kind xs. refl; unhold = λ kind. refl }) (record { answer = λ xs. refl; take = λ run. refl; leave = λ run. refl }) c v.releases more list

pub manager_changes : (c : Configuration) (past : List Effect) (views : HostId → View) (q : FmRequest) → list_all ends_none (manager_outcome c past views q).changes ≡ true
manager_changes c past views (FmRequest.GetEvents log) = refl
manager_changes c past views (FmRequest.ClearEvents number all handles) =
    clear_passes ends_none LogId.Manager (record { cleared = λ n. refl; reset = refl }) number (log_of LogId.Manager past) all handles
manager_changes c past views FmRequest.GetInfo = refl
manager_changes c past views (FmRequest.GetRegions host count first) = refl
manager_changes c past views (FmRequest.SetRegion r sanitize size) = refl
manager_changes c past views (FmRequest.GetExtentLists host count first) = refl
manager_changes c past views (FmRequest.Add host policy r bytes tag list) = refl
manager_changes c past views (FmRequest.Remove host flags r bytes tag list) =
    removals_pass ends_none host (λ run. refl) (λ run. refl) c (is_forced flags) (is_cleaning flags) (removed (views host).accepted flags tag list)
manager_changes c past views (FmRequest.AddReference tag) = reference_passes ends_none tag refl (is_referenced tag past)
manager_changes c past views (FmRequest.RemoveReference tag) = refl
manager_changes c past views (FmRequest.ListTags first count) = refl

-- ---- each kind of step

ends_cases : (c : Configuration) (before : List Entry) → Cases c before (EndsOpen c (effects before))
ends_cases c before = record {
  nothing = quiet_ends c (effects before) [] refl;
  refused = λ h kind xs. quiet_ends c (effects before) _ (unhold_passes ends_none h (record { hold = λ kind xs. refl; unhold = λ kind. refl }) kind xs);
  host = λ h q known row. outcome_ends c (effects before) (host_outcome c h (view_of c h before) q) (host_changes c h (view_of c h before) q);
  manager = λ q row. outcome_ends c (effects before) (manager_outcome c (effects before) (λ h. view_of c h before) q) (manager_changes c (effects before) (λ h. view_of c h before) q);
  scrub = λ n. quiet_ends c (effects before) _ (zeroes_pass ends_none (λ run. refl) c (scrubbed c (effects before) n));
}

-- ---- the open tags are the live ones

pub live_is_open : (c : Configuration) → IsSound c → (journal : List Entry) → Legal c journal → (t : Tag) → has_tag (open_tags c (effects journal)) t ≡ is_live_shareable c t (effects journal)
live_is_open c sound journal legal = open_is_live c sound (effects journal) (legal_is_sound c sound journal legal) (legal_is_opened c sound journal legal)

pub ends_with_life : (c : Configuration) → IsSound c → (before : List Entry) → Legal c before → (e : Entry) → Meets c before e → EndsWithLife c before e
ends_with_life c sound before legal e meets t =
    step_case c before (EndsOpen c (effects before)) (ends_cases c before) e meets t
    ∙ ap (λ past. has_tag (open_tags c (effects before)) t && not (has_tag (open_tags c past) t)) (sym (effects-push before e))
    ∙ (λ i. live_is_open c sound before legal t i && not (live_is_open c sound (before ++ e ∷ []) (Each-push (Meets c) before e legal meets) t i))
