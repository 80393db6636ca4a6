-- The effects of every legal step name hosts and regions of the device alone, and block sizes that regions support.
use Rattle.std.proofs.Common.{◌≡◌, ℕ, zero, suc, ◌+◌, ◌<◌, ◌≤◌, Bool, true, false, List, [], ◌∷◌, Option, Some, None, refl, sym, ap, subst, ◌∙◌, arith, leb, ltb, length}
use Rattle.std.proofs.lemmas.{Bool.and_parts, Bool.leb-false, Bool.lt-ltb, Bool.ltb-true, Bool.not-false, List.Elements.All-from_recursion}
use Rattle.std.specs.{List.AllByRecursion, List.list_all, List.range_with_len, Prelude.All, Prelude.map, Prelude.not, Prelude.◌&&◌, Prelude.IsTrue, declared.result.Result.Result}
use Rattle.std.specs.declared.result.Result.TheVariants.{Ok, Err}
use Rattle.cci_codec.specs.dcd_base.specs.declared.{capacity.Extent.Extent, capacity.Tag.Tag, faults.PayloadFault.PayloadFault as ManagerFault, faults.PayloadFault.PayloadFault as HostFault}
use Rattle.cci_codec.specs.dcd_base.specs.declared.{ids.HostId.HostId, steps.Actor.Actor, steps.LogId.LogId}
use Rattle.extent_list.specs.{dcd_codes.specs.Rules.◌breaks◌, dcd_codes.specs.declared.rules.Rule.Rule, media_map.specs.region_config.proofs.Searches.or_parts}
use Rattle.extent_list.specs.media_map.specs.region_config.specs.{Configurations.Configuration, Granules.is_supported, Granules.region_spec}
use Rattle.event_records.specs.declared.events.{Event.Event, EventKind.EventKind}
use Rattle.fm_payloads.specs.{ManagerPayloads.manager_request, declared.requests.FmRequest.FmRequest}
use Rattle.host_payloads.specs.{HostPayloads.host_request, declared.requests.HostRequest.HostRequest}
use Rattle.journal_core.specs.{Entries.effects, Entries.fits, declared.acts.Act.Act, declared.entries.Entry.Entry, declared.outcome.Effect.Effect}
use Rattle.device_rules.specs.Answers.{dropped, effects_with, host_outcome, host_result, host_rule, manager_outcome, manager_result, manager_rule, scrubbed, unless}
use Rattle.device_rules.{proofs.Adding.row_of, proofs.LogOutcomes.whole, specs.Legal.Legal, specs.Legal.Meets, specs.Legal.right_answer, specs.Logs.log_of}
use Rattle.device_rules.specs.Outcomes.{Outcome, effects_of, log_full, no_extent, record_for}
use Rattle.device_rules.specs.ReleaseOutcomes.{is_cleaning, is_forced, policy_in, remove_rule, removed}
use Rattle.device_rules.specs.{Settings.no_such_region, Settings.set_rule, Tags.is_referenced, Views.View, Views.view_of}
use Rattle.device_rules.proofs.EffectKinds.{PassClearing, PassHeld, PassLists, PassRecords, clear_passes, dropped_passes, host_passes, outcome_passes, reference_passes, removals_pass, tells, zeroes_pass}
use Rattle.device_state.specs.Updates.{IsOfDevice, IsOfLog}

-- ---- the same as a test

abbrev is_log_of : Configuration → LogId → Bool
is_log_of c (LogId.Host h) = ltb h c.hosts
is_log_of c LogId.Manager = true

abbrev is_of_device : Configuration → Effect → Bool
is_of_device c (Effect.Offer h xs) = ltb h c.hosts
is_of_device c (Effect.Answer h xs) = ltb h c.hosts
is_of_device c (Effect.Take h run) = ltb h c.hosts
is_of_device c (Effect.Leave h run) = ltb h c.hosts
is_of_device c (Effect.Hold h kind xs) = ltb h c.hosts
is_of_device c (Effect.Unhold h kind) = ltb h c.hosts
is_of_device c (Effect.Logged l event) = is_log_of c l
is_of_device c (Effect.Missed l) = is_log_of c l
is_of_device c (Effect.Cleared l n) = is_log_of c l
is_of_device c (Effect.Reset l) = is_log_of c l
is_of_device c (Effect.Block r size) = ltb r (length c.regions) && is_supported (region_spec c r) size
is_of_device c e = true

log_passes : (c : Configuration) (l : LogId) → is_log_of c l ≡ true → IsOfLog c.hosts l
log_passes c (LogId.Host h) passes = ltb-true h c.hosts passes
log_passes c LogId.Manager passes = tt

effect_passes : (c : Configuration) (e : Effect) → is_of_device c e ≡ true → IsOfDevice c e
effect_passes c (Effect.Offer h xs) passes = ltb-true h c.hosts passes
effect_passes c (Effect.Answer h xs) passes = ltb-true h c.hosts passes
effect_passes c (Effect.Take h run) passes = ltb-true h c.hosts passes
effect_passes c (Effect.Leave h run) passes = ltb-true h c.hosts passes
effect_passes c (Effect.Hold h kind xs) passes = ltb-true h c.hosts passes
effect_passes c (Effect.Unhold h kind) passes = ltb-true h c.hosts passes
effect_passes c (Effect.Logged l event) passes = log_passes c l passes
effect_passes c (Effect.Missed l) passes = log_passes c l passes
effect_passes c (Effect.Cleared l n) passes = log_passes c l passes
effect_passes c (Effect.Reset l) passes = log_passes c l passes
effect_passes c (Effect.Block r size) passes =
    let parts = and_parts (ltb r (length c.regions)) (is_supported (region_spec c r) size) passes in
    (ltb-true r (length c.regions) parts.0, parts.1)
effect_passes c (Effect.Zero run) passes = tt
effect_passes c (Effect.Soil run) passes = tt
effect_passes c (Effect.Ref t on) passes = tt
effect_passes c (Effect.TagEnd t) passes = tt

all_pass_each : (c : Configuration) (new : List Effect) → list_all (is_of_device c) new ≡ true → AllByRecursion (IsOfDevice c) new
all_pass_each c [] passes = tt
all_pass_each c (e ∷ new) passes =
    let parts = and_parts (is_of_device c e) (list_all (is_of_device c) new) passes in
    (effect_passes c e parts.0, all_pass_each c new parts.1)

-- ---- each command

module _ (c : Configuration) where
  abbrev p : Effect → Bool
  p e = is_of_device c e

  records : (l : LogId) → is_log_of c l ≡ true → PassRecords p l
  records l known = record { logged = λ event. known; missed = known }

  clears : (l : LogId) → is_log_of c l ≡ true → PassClearing p l
  clears l known = record { cleared = λ n. known; reset = known }

  held : (h : HostId) → h < c.hosts → PassHeld p h
  held h known = record { hold = λ kind xs. lt-ltb h c.hosts known; unhold = λ kind. lt-ltb h c.hosts known }

  lists : (h : HostId) → h < c.hosts → PassLists p h
  lists h known = record { answer = λ xs. lt-ltb h c.hosts known; take = λ run. lt-ltb h c.hosts known; leave = λ run. lt-ltb h c.hosts known }

  ends : (t : Tag) → p (Effect.TagEnd t) ≡ true
  ends t = refl

  -- each host is told
  tells_each : (event : HostId → Event) (a n : ℕ) → a + n ≤ c.hosts → tells (is_log_of c) (map (λ h. (LogId.Host h, event h ∷ [])) (range_with_len a n)) ≡ true
  tells_each event a zero within = refl
  tells_each event a (suc n) within =
      ap (λ b. b && tells (is_log_of c) (map (λ h. (LogId.Host h, event h ∷ [])) (range_with_len (a + 1) n))) (lt-ltb a c.hosts (omega (arith, within)))
      ∙ tells_each event (a + 1) n (omega (arith, within))

  module _ (before : List Entry) where
    abbrev past : List Effect
    past = effects before

    abbrev views : HostId → View
    views h = view_of c h before

    outcome : (o : Outcome) → list_all p o.changes ≡ true → tells (is_log_of c) o.log_records ≡ true → list_all p (effects_of c past o) ≡ true
    outcome o changes told = outcome_passes p (is_log_of c) records ends c past o changes told

    set_passes : (r : ℕ) (sanitize : Bool) (size : ℕ) → set_rule c past views r sanitize size ≡ None → p (Effect.Block r size) ≡ true
    set_passes r sanitize size rule =
        let p4 = or_parts _ _ rule in
        let p3 = or_parts _ _ p4.0 in
        let p2 = or_parts _ _ p3.0 in
        let p1 = or_parts (no_such_region c r) (not (is_supported (region_spec c r) size) breaks Rule.NotSupportedSize size) p2.0 in
        let known = leb-false (length c.regions) r (whole (leb (length c.regions) r) (Rule.NoSuchRegion r) p1.0) in
        ap (λ b. b && is_supported (region_spec c r) size) (lt-ltb r (length c.regions) known)
        ∙ not-false (is_supported (region_spec c r) size) (whole (not (is_supported (region_spec c r) size)) (Rule.NotSupportedSize size) p1.1)

    remove_known : (h flags r : ℕ) (tag : Tag) (xs : List Extent) → remove_rule c views h flags r tag xs ≡ None → h < c.hosts
    remove_known h flags r tag xs rule =
        let p5 = or_parts _ (log_full h (views h).log (length (removed (views h).accepted flags tag xs))) rule in
        let p4 = or_parts _ _ p5.0 in
        let p3 = or_parts _ (ltb 1 (policy_in flags) breaks Rule.NoSuchPolicy (policy_in flags)) p4.0 in
        let p2 = or_parts (leb c.hosts h breaks Rule.NoSuchHost h) ((is_cleaning flags && not (is_forced flags)) breaks Rule.UnsupportedFlag) p3.0 in
        leb-false c.hosts h (whole (leb c.hosts h) (Rule.NoSuchHost h) p2.0)

    manager_passes : (q : FmRequest) → manager_rule c past views q ≡ None → list_all p (effects_of c past (manager_outcome c past views q)) ≡ true
    manager_passes (FmRequest.GetEvents log) rule = refl
    manager_passes (FmRequest.ClearEvents number all handles) rule =
        outcome (manager_outcome c past views (FmRequest.ClearEvents number all handles)) (clear_passes p LogId.Manager (clears LogId.Manager refl) number (log_of LogId.Manager past) all handles) refl
    manager_passes FmRequest.GetInfo rule = refl
    manager_passes (FmRequest.GetRegions host count first) rule = refl
    manager_passes (FmRequest.SetRegion r sanitize size) rule =
        outcome (manager_outcome c past views (FmRequest.SetRegion r sanitize size)) (ap (λ b. b && true) (set_passes r sanitize size rule))
        (tells_each (λ h. record (record_for h (views h) EventKind.RegionUpdated false no_extent) { region = r }) 0 c.hosts (omega arith))
    manager_passes (FmRequest.GetExtentLists host count first) rule = refl
    manager_passes (FmRequest.Add host policy r bytes tag xs) rule =
        let known = lt-ltb host c.hosts (row_of c before host policy r bytes tag xs rule).host in
        outcome (manager_outcome c past views (FmRequest.Add host policy r bytes tag xs)) (ap (λ b. b && true) known) (ap (λ b. b && true) known)
    manager_passes (FmRequest.Remove host flags r bytes tag xs) rule =
        let known = lt-ltb host c.hosts (remove_known host flags r tag xs rule) in
        outcome (manager_outcome c past views (FmRequest.Remove host flags r bytes tag xs))
        (removals_pass p host (λ run. known) (λ run. refl) c (is_forced flags) (is_cleaning flags) (removed (views host).accepted flags tag xs)) (ap (λ b. b && true) known)
    manager_passes (FmRequest.AddReference tag) rule =
        outcome (manager_outcome c past views (FmRequest.AddReference tag)) (reference_passes p tag refl (is_referenced tag past)) refl
    manager_passes (FmRequest.RemoveReference tag) rule = outcome (manager_outcome c past views (FmRequest.RemoveReference tag)) refl refl
    manager_passes (FmRequest.ListTags first count) rule = refl

    -- ---- each step

    by_rule : (rule : Option Rule) (o : Outcome) (refused : List Effect) → (rule ≡ None → list_all p (effects_of c past o) ≡ true) → list_all p refused ≡ true →
        list_all p (effects_with c past refused (unless rule o)) ≡ true
    by_rule None o refused fine broken = fine refl
    by_rule (Some rule) o refused fine broken = broken

    host_case : (h : HostId) → h < c.hosts → (opcode : ℕ) (result : Result HostRequest HostFault) →
        list_all p (effects_with c past (dropped h (views h) opcode) (host_result c h (views h) result)) ≡ true
    host_case h known opcode (Ok q) =
        by_rule (host_rule c h (views h) q) (host_outcome c h (views h) q) (dropped h (views h) opcode)
        (λ rule. host_passes p h ends (records LogId.Manager refl) (clears (LogId.Host h) (lt-ltb h c.hosts known)) (held h known) (lists h known) c past (views h) q)
        (dropped_passes p h (held h known) (views h) opcode)
    host_case h known opcode (Err fault) = dropped_passes p h (held h known) (views h) opcode

    manager_case : (result : Result FmRequest ManagerFault) → list_all p (effects_with c past [] (manager_result c before result)) ≡ true
    manager_case (Ok q) = by_rule (manager_rule c past views q) (manager_outcome c past views q) [] (manager_passes q) refl
    manager_case (Err fault) = refl

    answer_case : (actor : Actor) (act : Act) → IsTrue (fits c.hosts actor act) → list_all p (right_answer c before actor act).1 ≡ true
    answer_case (Actor.Host h) (Act.Command q) fit = host_case h (ltb-true h c.hosts fit) q.opcode (host_request q.opcode q.payload)
    answer_case (Actor.Host h) (Act.Load d) fit = refl
    answer_case (Actor.Host h) (Act.Store d value) fit = refl
    answer_case (Actor.Host h) (Act.Scrub n) fit = refl
    answer_case Actor.Manager (Act.Command q) fit = manager_case (manager_request q.opcode q.payload)
    answer_case Actor.Manager (Act.Load d) fit = refl
    answer_case Actor.Manager (Act.Store d value) fit = refl
    answer_case Actor.Manager (Act.Scrub n) fit = refl
    answer_case Actor.Sanitizer (Act.Scrub n) fit = zeroes_pass p (λ run. refl) c (scrubbed c past n)
    answer_case Actor.Sanitizer (Act.Command q) fit = refl
    answer_case Actor.Sanitizer (Act.Load d) fit = refl
    answer_case Actor.Sanitizer (Act.Store d value) fit = refl

-- So it is of each effect of a legal step, one after another.
pub each_of_device : (c : Configuration) (before : List Entry) (e : Entry) → Meets c before e → AllByRecursion (IsOfDevice c) e.effects
each_of_device c before e meets =
    all_pass_each c e.effects (subst (λ new. list_all (is_of_device c) new ≡ true) (sym meets.effects) (answer_case c before e.actor e.act meets.allowed))

pub of_device : (c : Configuration) (before : List Entry) (e : Entry) → Legal c before → Meets c before e → All (IsOfDevice c) e.effects
of_device c before e legal meets = All-from_recursion (IsOfDevice c) e.effects (each_of_device c before e meets)
