-- After every legal journal the open tags are the live ones, each once, in the order in which they became live.
use Rattle.std.proofs.Common.{◌≡◌, Bool, true, false, List, [], ◌∷◌, ◌++◌, map, refl, sym, subst, arith}
use Rattle.std.specs.{Prelude.flat_map, Prelude.if◌then◌else◌, List.list_all}
use Rattle.cci_codec.specs.dcd_base.specs.declared.{capacity.Extent.Extent, capacity.Tag.Tag, ids.HostId.HostId, steps.LogId.LogId}
use Rattle.event_records.specs.declared.events.Event.{Event}
use Rattle.fm_payloads.specs.declared.requests.FmRequest.{FmRequest}
use Rattle.host_payloads.specs.declared.requests.HostRequest.{HostRequest}
use Rattle.extent_list.specs.media_map.specs.{Places.run_of, region_config.specs.Configurations.Configuration, region_config.specs.Soundness.IsSound}
use Rattle.journal_core.{proofs.EachSteps.Each-push, proofs.JournalSteps.effects-push, specs.Entries.effects, specs.declared.entries.Entry.Entry, specs.declared.outcome.Effect.Effect}
use Rattle.journal_core.specs.declared.outcome.HeldKind.{HeldKind}
use Rattle.device_rules.proofs.{EndSteps.live_is_open, Fading.fades, Fading.is_single, Fading.single_fading, Leaving.both_pass, Leaving.leaves_tags, Leaving.map_passes}
use Rattle.device_rules.proofs.{LegalSteps.Cases, LegalSteps.by_steps, LegalSteps.step_case, OpenOnce.open_once}
use Rattle.device_rules.proofs.TagOrder.{InOrder, OpenLive, no_offer, order_kept, order_offered}
use Rattle.device_rules.specs.{Answers.host_outcome, Answers.manager_outcome, Answers.scrubbed, Answers.zeroes, Invariants.TagsLive, Legal.Legal, Legal.Meets, Logs.log_of}
use Rattle.device_rules.specs.{Outcomes.Outcome, Outcomes.effects_of, Outcomes.ended, Outcomes.entered_all, ReleaseOutcomes.is_cleaning, ReleaseOutcomes.is_forced, ReleaseOutcomes.removed}
use Rattle.device_rules.specs.{ResponseOutcomes.answered, ResponseOutcomes.respond_outcome, ResponseOutcomes.unhold, Tags.is_referenced, Views.View, Views.view_of}
use Rattle.device_rules.proofs.EffectKinds.{any_log, clear_passes, give_back_passes, hold_passes, outcome_passes, reference_passes, removals_pass, respond_passes, tells_any, told_passes, unhold_passes, zeroes_pass}

-- the effects keep the order, where the open tags are the live ones then
abbrev Keeps : Configuration → List Effect → List Effect → Type 0
Keeps c past new = OpenLive c (past ++ new) → InOrder c (past ++ new)

module _ (c : Configuration) (past : List Effect) (before : OpenLive c past) (order : InOrder c past) where
  fading : (new : List Effect) → list_all fades new ≡ true → list_all no_offer new ≡ true → Keeps c past new
  fading new fade none after = order_kept c past new (single_fading new fade) none before after order

  -- a command whose changes are so
  by_outcome : (p : Effect → Bool) → ((t : Tag) → p (Effect.TagEnd t) ≡ true) → ((l : LogId) (event : Event) → p (Effect.Logged l event) ≡ true) → ((l : LogId) → p (Effect.Missed l) ≡ true) →
      (o : Outcome) → list_all p o.changes ≡ true → list_all p (effects_of c past o) ≡ true
  by_outcome p end logged missed o changes = outcome_passes p any_log (λ l is. record { logged = logged l; missed = missed l }) end c past o changes (tells_any o.log_records)

  fading_outcome : (o : Outcome) → list_all fades o.changes ≡ true → list_all no_offer o.changes ≡ true → Keeps c past (effects_of c past o)
  fading_outcome o fade none = fading (effects_of c past o)
      (by_outcome fades (λ t. refl) (λ l event. refl) (λ l. refl) o fade)
      (by_outcome no_offer (λ t. refl) (λ l event. refl) (λ l. refl) o none)

  -- one whose changes are a reference, or end with an answer
  single_outcome : (o : Outcome) → is_single (effects_of c past o) ≡ true → list_all no_offer o.changes ≡ true → Keeps c past (effects_of c past o)
  single_outcome o single none after =
      order_kept c past (effects_of c past o) single (by_outcome no_offer (λ t. refl) (λ l event. refl) (λ l. refl) o none) before after order

  -- ends of tags and records follow the changes
  told_fades : (log_records : List (LogId × List Event)) → list_all fades (flat_map (λ n. entered_all n.0 (log_of n.0 past) n.1) log_records) ≡ true
  told_fades log_records = told_passes fades any_log (λ l is. record { logged = λ event. refl; missed = refl }) past log_records (tells_any log_records)

  told_leaves : (log_records : List (LogId × List Event)) → list_all leaves_tags (flat_map (λ n. entered_all n.0 (log_of n.0 past) n.1) log_records) ≡ true
  told_leaves log_records = told_passes leaves_tags any_log (λ l is. record { logged = λ event. refl; missed = refl }) past log_records (tells_any log_records)

  after_fades : (changes : List Effect) (tags : List Tag) (log_records : List (LogId × List Event)) → list_all fades changes ≡ true →
      list_all fades ((changes ++ map Effect.TagEnd tags) ++ flat_map (λ n. entered_all n.0 (log_of n.0 past) n.1) log_records) ≡ true
  after_fades changes tags log_records fade =
      both_pass fades (changes ++ map Effect.TagEnd tags) (flat_map (λ n. entered_all n.0 (log_of n.0 past) n.1) log_records)
      (both_pass fades changes (map Effect.TagEnd tags) fade (map_passes fades Effect.TagEnd (λ t. refl) tags)) (told_fades log_records)

  -- ---- a host's command

  module _ (h : HostId) (v : View) where
    takes_fade : (xs : List Extent) → list_all fades (map (λ x. Effect.Take h (run_of c h x)) xs) ≡ true
    takes_fade xs = map_passes fades (λ x. Effect.Take h (run_of c h x)) (λ x. refl) xs

    answer_single : (held : List Extent) (offers : List (List Extent)) (all : List Extent) (tags : List Tag) (log_records : List (LogId × List Event)) →
        is_single (((unhold h HeldKind.Responses held ++ answered c h offers all) ++ map Effect.TagEnd tags) ++ flat_map (λ n. entered_all n.0 (log_of n.0 past) n.1) log_records) ≡ true
    answer_single [] [] all tags log_records = single_fading (map Effect.TagEnd tags ++ flat_map (λ n. entered_all n.0 (log_of n.0 past) n.1) log_records) (after_fades [] tags log_records refl)
    answer_single (y ∷ held) [] all tags log_records = single_fading (map Effect.TagEnd tags ++ flat_map (λ n. entered_all n.0 (log_of n.0 past) n.1) log_records) (after_fades [] tags log_records refl)
    answer_single [] (offer ∷ later) all tags log_records = after_fades (map (λ x. Effect.Take h (run_of c h x)) all) tags log_records (takes_fade all)
    answer_single (y ∷ held) (offer ∷ later) all tags log_records = after_fades (map (λ x. Effect.Take h (run_of c h x)) all) tags log_records (takes_fade all)

    host_keeps : (q : HostRequest) → Keeps c past (effects_of c past (host_outcome c h v q))
    host_keeps (HostRequest.GetEvents log) = fading_outcome (host_outcome c h v (HostRequest.GetEvents log)) refl refl
    host_keeps (HostRequest.ClearEvents number all handles) = fading_outcome (host_outcome c h v (HostRequest.ClearEvents number all handles))
        (clear_passes fades (LogId.Host h) (record { cleared = λ n. refl; reset = refl }) number v.log all handles)
        (clear_passes no_offer (LogId.Host h) (record { cleared = λ n. refl; reset = refl }) number v.log all handles)
    host_keeps (HostRequest.GetConfiguration count first) = fading_outcome (host_outcome c h v (HostRequest.GetConfiguration count first)) refl refl
    host_keeps (HostRequest.GetExtents count first) = fading_outcome (host_outcome c h v (HostRequest.GetExtents count first)) refl refl
    host_keeps (HostRequest.AddResponse true list) = fading_outcome (host_outcome c h v (HostRequest.AddResponse true list))
        (hold_passes fades h (record { hold = λ kind xs. refl; unhold = λ kind. refl }) HeldKind.Responses list)
        (hold_passes no_offer h (record { hold = λ kind xs. refl; unhold = λ kind. refl }) HeldKind.Responses list)
    host_keeps (HostRequest.AddResponse false list) =
        let o : Outcome = respond_outcome c h v false list in
        single_outcome (respond_outcome c h v false list)
        (answer_single v.responses v.offers (v.responses ++ list) (ended c past o.changes o.tags) o.log_records)
        (respond_passes no_offer h (record { hold = λ kind xs. refl; unhold = λ kind. refl }) (record { answer = λ xs. refl; take = λ run. refl; leave = λ run. refl }) c v.offers v.responses false list)
    host_keeps (HostRequest.GiveBack more list) = fading_outcome (host_outcome c h v (HostRequest.GiveBack more list)) (gives more)
        (give_back_passes no_offer h (record { hold = λ kind xs. refl; unhold = λ kind. refl }) (record { answer = λ xs. refl; take = λ run. refl; leave = λ run. refl }) c v.releases more list)
      where
        gives : (more : Bool) → list_all fades (host_outcome c h v (HostRequest.GiveBack more list)).changes ≡ true
        gives true = hold_passes fades h (record { hold = λ kind xs. refl; unhold = λ kind. refl }) HeldKind.Releases list
        gives false = both_pass fades (unhold h HeldKind.Releases v.releases) (map (λ x. Effect.Leave h (run_of c h x)) (v.releases ++ list))
            (unhold_passes fades h (record { hold = λ kind xs. refl; unhold = λ kind. refl }) HeldKind.Releases v.releases)
            (map_passes fades (λ x. Effect.Leave h (run_of c h x)) (λ x. refl) (v.releases ++ list))

  -- ---- a command of the manager

  reference_single : (tag : Tag) (known : Bool) (tags : List Tag) (log_records : List (LogId × List Event)) →
      is_single (((if known then [] else Effect.Ref tag true ∷ []) ++ map Effect.TagEnd tags) ++ flat_map (λ n. entered_all n.0 (log_of n.0 past) n.1) log_records) ≡ true
  reference_single tag true tags log_records = single_fading (map Effect.TagEnd tags ++ flat_map (λ n. entered_all n.0 (log_of n.0 past) n.1) log_records) (after_fades [] tags log_records refl)
  reference_single tag false tags log_records = after_fades [] tags log_records refl

  manager_keeps : (views : HostId → View) (q : FmRequest) → Keeps c past (effects_of c past (manager_outcome c past views q))
  manager_keeps views (FmRequest.GetEvents log) = fading_outcome (manager_outcome c past views (FmRequest.GetEvents log)) refl refl
  manager_keeps views (FmRequest.ClearEvents number all handles) = fading_outcome (manager_outcome c past views (FmRequest.ClearEvents number all handles))
      (clear_passes fades LogId.Manager (record { cleared = λ n. refl; reset = refl }) number (log_of LogId.Manager past) all handles)
      (clear_passes no_offer LogId.Manager (record { cleared = λ n. refl; reset = refl }) number (log_of LogId.Manager past) all handles)
  manager_keeps views FmRequest.GetInfo = fading_outcome (manager_outcome c past views FmRequest.GetInfo) refl refl
  manager_keeps views (FmRequest.GetRegions host count first) = fading_outcome (manager_outcome c past views (FmRequest.GetRegions host count first)) refl refl
  manager_keeps views (FmRequest.SetRegion r sanitize size) = fading_outcome (manager_outcome c past views (FmRequest.SetRegion r sanitize size)) refl refl
  manager_keeps views (FmRequest.GetExtentLists host count first) = fading_outcome (manager_outcome c past views (FmRequest.GetExtentLists host count first)) refl refl
  manager_keeps views (FmRequest.Add host policy r bytes tag list) =
      let o : Outcome = manager_outcome c past views (FmRequest.Add host policy r bytes tag list) in
      λ after. order_offered c past host _ _ (told_fades o.log_records) (told_leaves o.log_records) before after order
  manager_keeps views (FmRequest.Remove host flags r bytes tag list) = fading_outcome (manager_outcome c past views (FmRequest.Remove host flags r bytes tag list))
      (removals_pass fades host (λ run. refl) (λ run. refl) c (is_forced flags) (is_cleaning flags) (removed (views host).accepted flags tag list))
      (removals_pass no_offer host (λ run. refl) (λ run. refl) c (is_forced flags) (is_cleaning flags) (removed (views host).accepted flags tag list))
  manager_keeps views (FmRequest.AddReference tag) =
      single_outcome (manager_outcome c past views (FmRequest.AddReference tag))
      (reference_single tag (is_referenced tag past) [] []) (reference_passes no_offer tag refl (is_referenced tag past))
  manager_keeps views (FmRequest.RemoveReference tag) = fading_outcome (manager_outcome c past views (FmRequest.RemoveReference tag)) refl refl
  manager_keeps views (FmRequest.ListTags first count) = fading_outcome (manager_outcome c past views (FmRequest.ListTags first count)) refl refl

-- ---- every step

order_cases : (c : Configuration) (before : List Entry) → OpenLive c (effects before) → InOrder c (effects before) → Cases c before (Keeps c (effects before))
order_cases c before now order = record {
  nothing = fading c (effects before) now order [] refl refl;
  refused = λ h kind xs. fading c (effects before) now order (unhold h kind xs)
      (unhold_passes fades h (record { hold = λ kind xs. refl; unhold = λ kind. refl }) kind xs)
      (unhold_passes no_offer h (record { hold = λ kind xs. refl; unhold = λ kind. refl }) kind xs);
  host = λ h q known row. host_keeps c (effects before) now order h (view_of c h before) q;
  manager = λ q row. manager_keeps c (effects before) now order (λ h. view_of c h before) q;
  scrub = λ n. fading c (effects before) now order (zeroes c (scrubbed c (effects before) n))
      (zeroes_pass fades (λ run. refl) c (scrubbed c (effects before) n)) (zeroes_pass no_offer (λ run. refl) c (scrubbed c (effects before) n));
}

order_step : (c : Configuration) → IsSound c → (before : List Entry) (e : Entry) → Legal c before → InOrder c (effects before) → Meets c before e → InOrder c (effects (before ++ e ∷ []))
order_step c sound before e legal order meets =
    let after : OpenLive c (effects (before ++ e ∷ [])) = live_is_open c sound (before ++ e ∷ []) (Each-push (Meets c) before e legal meets) in
    subst (InOrder c) (sym (effects-push before e))
    (step_case c before (Keeps c (effects before)) (order_cases c before (live_is_open c sound before legal) order) e meets (subst (OpenLive c) (effects-push before e) after))

pub in_order : (c : Configuration) → IsSound c → (journal : List Entry) → Legal c journal → InOrder c (effects journal)
in_order c sound = by_steps c (λ journal. InOrder c (effects journal)) (λ i j d below within. absurd (omega (arith, within))) (order_step c sound)

pub tags_live : (c : Configuration) → IsSound c → (journal : List Entry) → Legal c journal → TagsLive c journal
tags_live c sound journal legal = record {
  live = live_is_open c sound journal legal;
  once = open_once c (effects journal);
  order = in_order c sound journal legal;
}
