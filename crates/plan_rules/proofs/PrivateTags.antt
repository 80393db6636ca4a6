-- After every legal journal extents outside the shareable regions have no open tag, and no host has too many tags.
use Rattle.std.proofs.Common.{◌≡◌, ℕ, ◌<◌, Bool, true, false, not, ◌&&◌, ◌==◌, List, [], ◌∷◌, ◌++◌, length, map, Some, None, refl, ap, sym, subst, ◌∙◌, inl, inr, arith, append_assoc, append-nil, eqb, leb, ◌≤◌, ltb}
use Rattle.std.proofs.lemmas.Bool.{and_cases, and_parts, eq-eqb, false≢true, leb-false, ltb-true, not-false, ltb-false}
use Rattle.std.{proofs.lemmas.List.Elements.All-contains, proofs.lemmas.List.Elements.All-from_recursion, specs.List.list_all}
use Rattle.std.specs.{Prelude.if◌then◌else◌, Prelude.IsTrue, Prelude.Option, Prelude.unwrap_or, declared.result.Result.Result}
use Rattle.std.specs.declared.result.Result.TheVariants.{Ok, Err}
use Rattle.dcd_base.specs.{Limits.tags_supported, Words.has_tag, declared.capacity.Extent.Extent, declared.capacity.Tag.Tag}
use Rattle.dcd_base.specs.declared.{faults.PayloadFault.PayloadFault as ManagerFault, faults.PayloadFault.PayloadFault as HostFault, ids.HostId.HostId, steps.Actor.Actor, steps.LogId.LogId}
use Rattle.dcd_codes.specs.declared.rules.Rule.{Rule}
use Rattle.fm_payloads.specs.{declared.requests.FmRequest.FmRequest, ManagerPayloads.manager_request}
use Rattle.host_payloads.specs.{declared.requests.HostRequest.HostRequest, HostPayloads.host_request}
use Rattle.media_map.specs.Places.{run_of}
use Rattle.region_config.specs.{Configurations.Configuration, Granules.with_blocks, Soundness.IsSound}
use Rattle.journal_core.{proofs.JournalSteps.effects-push, specs.Entries.EachFrom, specs.Entries.effects, specs.Entries.fits, specs.declared.acts.Act.Act, specs.declared.entries.Entry.Entry}
use Rattle.journal_core.specs.declared.outcome.{Effect.Effect, HeldKind.HeldKind}
use Rattle.isolation_laws.specs.device_rules.proofs.{Adding.IsAdded, Adding.added, Adding.row_of, Holding.first_is_sound, LegalSound.clear_quiet, LegalSound.dropped_quiet, LegalSound.entry_keeps}
use Rattle.isolation_laws.specs.device_rules.proofs.{Overlaps.not_broken, Pictures.picture-append}
use Rattle.isolation_laws.specs.device_rules.proofs.{Quiet.hold_quiet, Quiet.is_quiet, Quiet.quiet_front, Quiet.quiet_picture, Quiet.unhold_quiet, Quiet.zeroes_quiet, Responding.answer_of}
use Rattle.isolation_laws.specs.device_rules.specs.{Adding.add_outcome, Adding.add_rule, Adding.is_open_in, Adding.offered, Adding.too_many_tags, Legal.Legal, Legal.Meets, Legal.right_answer}
use Rattle.isolation_laws.specs.device_rules.specs.{Logs.log_of, Outcomes.Outcome, Outcomes.effects_of, Outcomes.log_full}
use Rattle.isolation_laws.specs.device_rules.specs.Pictures.{Picture, picture_after, picture_of, extents_at}
use Rattle.isolation_laws.specs.device_rules.specs.ReleaseOutcomes.{give_back_outcome, is_cleaning, is_forced, leaves, removals, remove_outcome, removed}
use Rattle.isolation_laws.specs.device_rules.specs.{ResponseOutcomes.respond_changes, ResponseOutcomes.respond_outcome, ResponseOutcomes.unhold, Standing.Sound}
use Rattle.isolation_laws.specs.device_rules.specs.TagCommands.{add_reference_outcome, remove_reference_outcome}
use Rattle.isolation_laws.specs.device_rules.specs.{Tags.is_live, Tags.is_referenced, Tags.last_offer, Tags.open_tags, Tags.tag_region, Views.View, Views.extents_in, Views.view_of}
use Rattle.isolation_laws.specs.device_rules.specs.Answers.{dropped, effects_with, host_outcome, host_result, host_rule, manager_outcome, manager_result, manager_rule, scrubbed, unless, zeroes}
use Rattle.selection.proofs.Prescribed.{neither}
use Rattle.extent_list.specs.{ExtentLists.marked, ExtentLists.real_tags, Listing.too_many_listed}
use Rattle.offer_core.specs.Responses.{respond_rule, response_list_rule}
use Rattle.plan_rules.proofs.ClosedTags.{AreClosed, IsClosed, IsLess, answer_less, leaves_are, less_self, offer_closed, outcome_less, removals_less}
use Rattle.plan_rules.{proofs.TagsKept.TagsKept, proofs.TagsKept.less_kept, proofs.TagsKept.offer_few, proofs.TagsKept.outcome_kept, specs.PrivateTags.PrivateTagsClosed}

module _ (c : Configuration) (sound : IsSound c) (journal : List Entry) (before : Sound c (picture_of c (effects journal))) (kept : TagsKept c (picture_of c (effects journal))) where
  abbrev past : List Effect
  past = effects journal

  -- what keeps parts of the extents and opens no tag
  less : (new : List Effect) → IsLess (picture_of c (effects journal)) (picture_of c (effects journal ++ new)) → Sound c (picture_of c (effects journal ++ new)) → TagsKept c (picture_of c (effects journal ++ new))
  less new is after = less_kept c sound (picture_of c past) before (picture_of c (past ++ new)) after is kept

  quiet_effects : (new : List Effect) → list_all is_quiet new ≡ true → TagsKept c (picture_of c (effects journal ++ new))
  quiet_effects new is = subst (TagsKept c) (sym (picture-append c past new ∙ quiet_picture c (picture_of c past) new is)) kept

  nothing : TagsKept c (picture_of c (effects journal ++ []))
  nothing = quiet_effects [] refl

  quiet : (o : Outcome) → list_all is_quiet o.changes ≡ true → TagsKept c (picture_of c (effects journal ++ effects_of c (effects journal) o))
  quiet o is = outcome_kept c past o (subst (TagsKept c) (sym (quiet_picture c (picture_of c past) o.changes is)) kept)

  -- a command that keeps parts of the extents
  by_less : (o : Outcome) → IsLess (picture_of c (effects journal)) (picture_after c (picture_of c (effects journal)) o.changes) → Sound c (picture_of c (effects journal ++ effects_of c (effects journal) o))
      → TagsKept c (picture_of c (effects journal ++ effects_of c (effects journal) o))
  by_less o is after = less (effects_of c past o) (outcome_less c past o is) after

  module _ (h : HostId) (host : h < c.hosts) where
    abbrev v : View
    v = view_of c h journal

    refused : (opcode : ℕ) → TagsKept c (picture_of c (effects journal ++ dropped h (view_of c h journal) opcode))
    refused opcode = quiet_effects (dropped h v opcode) (dropped_quiet h v (opcode == 0x4802) (opcode == 0x4803))

    responds : (offers : List (List Extent)) → (view_of c h journal).offers ≡ offers → (list : List Extent)
        → respond_rule (with_blocks c (view_of c h journal).block) h (length (view_of c h journal).accepted) offers (view_of c h journal).responses false list ≡ None
        → IsLess (picture_of c (effects journal)) (picture_after c (picture_of c (effects journal)) (respond_changes c h offers (view_of c h journal).responses false list))
    responds [] is list row =
        subst (IsLess (picture_of c past)) (sym (quiet_front c (picture_of c past) (unhold h HeldKind.Responses v.responses) [] (unhold_quiet h HeldKind.Responses v.responses))) (less_self (picture_of c past))
    responds (offer ∷ later) is list row =
        let p : Picture = picture_of c past in
        let all : List Extent = v.responses ++ list in
        let rules = neither (too_many_listed all) (response_list_rule (with_blocks c v.block) h (length v.accepted) (offer ∷ later) all) row in
        let a = answer_of c sound p before.stands h host offer later (v.responses ++ list) rules.1 in
        subst (IsLess p) (sym (quiet_front c p (unhold h HeldKind.Responses v.responses) (Effect.Answer h (map (marked offer) all) ∷ map (λ x. Effect.Take h (run_of c h x)) all) (unhold_quiet h HeldKind.Responses v.responses)))
        (answer_less c sound p before h host offer later is all a)

    gives : (list : List Extent) → IsLess (picture_of c (effects journal)) (picture_after c (picture_of c (effects journal)) (unhold h HeldKind.Releases (view_of c h journal).releases ++ leaves c h ((view_of c h journal).releases ++ list)))
    gives list =
        let p : Picture = picture_of c past in
        subst (IsLess p) (sym (quiet_front c p (unhold h HeldKind.Releases v.releases) (leaves c h (v.releases ++ list)) (unhold_quiet h HeldKind.Releases v.releases) ∙ ap (picture_after c p) (sym (leaves_are c h (v.releases ++ list)))))
        (removals_less c h false (v.releases ++ list) p)

    answered_host : (request : HostRequest) → host_rule c h (view_of c h journal) request ≡ None → Sound c (picture_of c (effects journal ++ effects_of c (effects journal) (host_outcome c h (view_of c h journal) request)))
        → TagsKept c (picture_of c (effects journal ++ effects_of c (effects journal) (host_outcome c h (view_of c h journal) request)))
    answered_host (HostRequest.GetEvents log) row after = quiet (host_outcome c h v (HostRequest.GetEvents log)) refl
    answered_host (HostRequest.ClearEvents log all handles) row after = quiet (host_outcome c h v (HostRequest.ClearEvents log all handles)) (clear_quiet (LogId.Host h) v.log handles (not (log == 4)) all)
    answered_host (HostRequest.GetConfiguration count first) row after = quiet (host_outcome c h v (HostRequest.GetConfiguration count first)) refl
    answered_host (HostRequest.GetExtents count first) row after = quiet (host_outcome c h v (HostRequest.GetExtents count first)) refl
    answered_host (HostRequest.AddResponse true list) row after = quiet (respond_outcome c h v true list) (hold_quiet h HeldKind.Responses list)
    answered_host (HostRequest.AddResponse false list) row after = by_less (respond_outcome c h v false list) (responds v.offers refl list row) after
    answered_host (HostRequest.GiveBack true list) row after = quiet (give_back_outcome c h v true list) (hold_quiet h HeldKind.Releases list)
    answered_host (HostRequest.GiveBack false list) row after = by_less (give_back_outcome c h v false list) (gives list) after

    by_rule : (opcode : ℕ) (request : HostRequest) (found : Option Rule) → host_rule c h (view_of c h journal) request ≡ found
        → Sound c (picture_of c (effects journal ++ effects_with c (effects journal) (dropped h (view_of c h journal) opcode) (unless found (host_outcome c h (view_of c h journal) request))))
        → TagsKept c (picture_of c (effects journal ++ effects_with c (effects journal) (dropped h (view_of c h journal) opcode) (unless found (host_outcome c h (view_of c h journal) request))))
    by_rule opcode request None row after = answered_host request row after
    by_rule opcode request (Some rule) row after = refused opcode

    by_request : (opcode : ℕ) (read : Result HostRequest HostFault) → Sound c (picture_of c (effects journal ++ effects_with c (effects journal) (dropped h (view_of c h journal) opcode) (host_result c h (view_of c h journal) read)))
        → TagsKept c (picture_of c (effects journal ++ effects_with c (effects journal) (dropped h (view_of c h journal) opcode) (host_result c h (view_of c h journal) read)))
    by_request opcode (Ok request) after = by_rule opcode request (host_rule c h v request) refl after
    by_request opcode (Err fault) after = refused opcode

  adds : (host : HostId) (policy r bytes : ℕ) (tag : Tag) (list : List Extent) → add_rule c (effects journal) (λ k. view_of c k journal) host policy r bytes tag list ≡ None
      → TagsKept c (picture_after c (picture_of c (effects journal)) (Effect.Offer host (offered c (effects journal) host policy r bytes tag list) ∷ []))
  adds host policy r bytes tag list row =
      let facts = row_of c journal host policy r bytes tag list row in
      let v : View = view_of c host journal in
      let new : List Extent = offered c past host policy r bytes tag list in
      let count : ℕ = length (real_tags (extents_in v ++ new)) in
      let last = neither _ (too_many_tags count) (neither _ (log_full host v.log (length new)) row).0 in
      let few : length (real_tags (extents_at (picture_of c (effects journal)) host ++ offered c (effects journal) host policy r bytes tag list)) ≤ tags_supported = ltb-false _ _ (not_broken (ltb tags_supported count) (Rule.TooManyTags count) last.1) in
      of_new (offered c past host policy r bytes tag list) (added c sound past before host r tag bytes list policy facts)
      (λ shut. elim (and_cases (leb policy 2) (is_live c tag past) facts.not_live) [
        | inr dead ↦ dead
        | inl more ↦ (let shares : policy ≡ 3 = omega (arith, leb-false policy 2 more, facts.policies) in
            let opened : (eqb policy 3 && not (is_open_in c past r tag)) ≡ false = facts.is_open in
            let is_in : is_open_in c past r tag ≡ true = not-false (is_open_in c past r tag) (ap (λ b. b && not (is_open_in c past r tag)) (sym (eq-eqb policy 3 shares)) ∙ opened) in
            absurd (false≢true (sym shut ∙ (and_parts (has_tag (open_tags c past) tag) (eqb (unwrap_or (tag_region c (last_offer tag past)) 0) r) is_in).0)))
      ]) few
    where
      of_new : (new : List Extent) → IsAdded c (picture_of c (effects journal)) host r tag new → (has_tag (open_tags c (effects journal)) tag ≡ false → is_live c tag (effects journal) ≡ false) → length (real_tags (extents_at (picture_of c (effects journal)) host ++ new)) ≤ tags_supported
          → TagsKept c (picture_after c (picture_of c (effects journal)) (Effect.Offer host new ∷ []))
      of_new [] a dead few = absurd (omega (arith, a.some))
      of_new (x ∷ xs) a dead few = record {
        closed = offer_closed c sound (picture_of c past) before host r tag x xs a.offer a.way dead kept.closed;
        few = offer_few c (picture_of c past) host (x ∷ xs) few kept.few;
      }

  removes : (host : HostId) (forced clean : Bool) (all : List Extent) → IsLess (picture_of c (effects journal)) (picture_after c (picture_of c (effects journal)) (if forced then removals c host clean all else []))
  removes host true clean all = removals_less c host clean all (picture_of c past)
  removes host false clean all = less_self (picture_of c past)

  references : (tag : Tag) (known : Bool) → TagsKept c (picture_after c (picture_of c (effects journal)) (if known then [] else Effect.Ref tag true ∷ []))
  references tag true = kept
  references tag false = record { closed = λ h. kept.closed h; few = λ h. kept.few h }

  answered_manager : (request : FmRequest) → manager_rule c (effects journal) (λ h. view_of c h journal) request ≡ None → Sound c (picture_of c (effects journal ++ effects_of c (effects journal) (manager_outcome c (effects journal) (λ h. view_of c h journal) request)))
      → TagsKept c (picture_of c (effects journal ++ effects_of c (effects journal) (manager_outcome c (effects journal) (λ h. view_of c h journal) request)))
  answered_manager (FmRequest.GetEvents log) row after = quiet (manager_outcome c past (λ h. view_of c h journal) (FmRequest.GetEvents log)) refl
  answered_manager (FmRequest.ClearEvents log all handles) row after = quiet (manager_outcome c past (λ h. view_of c h journal) (FmRequest.ClearEvents log all handles)) (clear_quiet LogId.Manager (log_of LogId.Manager past) handles (not (log == 4)) all)
  answered_manager FmRequest.GetInfo row after = quiet (manager_outcome c past (λ h. view_of c h journal) FmRequest.GetInfo) refl
  answered_manager (FmRequest.GetRegions host count first) row after = quiet (manager_outcome c past (λ h. view_of c h journal) (FmRequest.GetRegions host count first)) refl
  answered_manager (FmRequest.SetRegion r sanitize size) row after = outcome_kept c past (manager_outcome c past (λ h. view_of c h journal) (FmRequest.SetRegion r sanitize size)) (record { closed = λ h. kept.closed h; few = λ h. kept.few h })
  answered_manager (FmRequest.GetExtentLists host count first) row after = quiet (manager_outcome c past (λ h. view_of c h journal) (FmRequest.GetExtentLists host count first)) refl
  answered_manager (FmRequest.Add host policy r bytes tag list) row after = outcome_kept c past (add_outcome c past (λ h. view_of c h journal) host policy r bytes tag list) (adds host policy r bytes tag list row)
  answered_manager (FmRequest.Remove host flags r bytes tag list) row after =
      by_less (remove_outcome c (λ h. view_of c h journal) host flags tag list) (removes host (is_forced flags) (is_cleaning flags) (removed (view_of c host journal).accepted flags tag list)) after
  answered_manager (FmRequest.AddReference tag) row after = outcome_kept c past (add_reference_outcome past tag) (references tag (is_referenced tag past))
  answered_manager (FmRequest.RemoveReference tag) row after = outcome_kept c past (remove_reference_outcome tag) (record { closed = λ h. kept.closed h; few = λ h. kept.few h })
  answered_manager (FmRequest.ListTags first count) row after = quiet (manager_outcome c past (λ h. view_of c h journal) (FmRequest.ListTags first count)) refl

  by_manager_rule : (request : FmRequest) (found : Option Rule) → manager_rule c (effects journal) (λ h. view_of c h journal) request ≡ found
      → Sound c (picture_of c (effects journal ++ effects_with c (effects journal) [] (unless found (manager_outcome c (effects journal) (λ h. view_of c h journal) request))))
      → TagsKept c (picture_of c (effects journal ++ effects_with c (effects journal) [] (unless found (manager_outcome c (effects journal) (λ h. view_of c h journal) request))))
  by_manager_rule request None row after = answered_manager request row after
  by_manager_rule request (Some rule) row after = nothing

  by_manager_request : (read : Result FmRequest ManagerFault) → Sound c (picture_of c (effects journal ++ effects_with c (effects journal) [] (manager_result c journal read)))
      → TagsKept c (picture_of c (effects journal ++ effects_with c (effects journal) [] (manager_result c journal read)))
  by_manager_request (Ok request) after = by_manager_rule request (manager_rule c past (λ h. view_of c h journal) request) refl after
  by_manager_request (Err fault) after = nothing

  answer_kept : (actor : Actor) (act : Act) → IsTrue (fits c.hosts actor act) → Sound c (picture_of c (effects journal ++ (right_answer c journal actor act).1)) → TagsKept c (picture_of c (effects journal ++ (right_answer c journal actor act).1))
  answer_kept (Actor.Host h) (Act.Load d) allowed after = nothing
  answer_kept (Actor.Host h) (Act.Store d value) allowed after = nothing
  answer_kept (Actor.Host h) (Act.Command q) allowed after = by_request h (ltb-true h c.hosts allowed) q.opcode (host_request q.opcode q.payload) after
  answer_kept (Actor.Host h) (Act.Scrub n) allowed after = nothing
  answer_kept Actor.Manager (Act.Load d) allowed after = nothing
  answer_kept Actor.Manager (Act.Store d value) allowed after = nothing
  answer_kept Actor.Manager (Act.Command q) allowed after = by_manager_request (manager_request q.opcode q.payload) after
  answer_kept Actor.Manager (Act.Scrub n) allowed after = nothing
  answer_kept Actor.Sanitizer (Act.Load d) allowed after = nothing
  answer_kept Actor.Sanitizer (Act.Store d value) allowed after = nothing
  answer_kept Actor.Sanitizer (Act.Command q) allowed after = nothing
  answer_kept Actor.Sanitizer (Act.Scrub n) allowed after = quiet_effects (zeroes c (scrubbed c past n)) (zeroes_quiet c (scrubbed c past n))

-- ---- a journal

entry_kept : (c : Configuration) → IsSound c → (journal : List Entry) (e : Entry) → Sound c (picture_of c (effects journal)) → TagsKept c (picture_of c (effects journal)) → Meets c journal e → TagsKept c (picture_of c (effects (journal ++ e ∷ [])))
entry_kept c sound journal e before kept meets =
    let told : effects (journal ++ e ∷ []) ≡ effects journal ++ (right_answer c journal e.actor e.act).1 = effects-push journal e ∙ ap (λ (new : List Effect). effects journal ++ new) meets.effects in
    let after = subst (λ past. Sound c (picture_of c past)) told (entry_keeps c sound journal e before meets) in
    subst (λ past. TagsKept c (picture_of c past)) (sym told) (answer_kept c sound journal before kept e.actor e.act meets.allowed after)

kept_from : (c : Configuration) → IsSound c → (front journal : List Entry) → Sound c (picture_of c (effects front)) → TagsKept c (picture_of c (effects front)) → EachFrom front (Meets c) journal → TagsKept c (picture_of c (effects (front ++ journal)))
kept_from c sound front [] before kept legal = subst (λ j. TagsKept c (picture_of c (effects j))) (sym (append-nil front)) kept
kept_from c sound front (e ∷ journal) before kept legal =
    subst (λ j. TagsKept c (picture_of c (effects j))) (append_assoc front (e ∷ []) journal)
    (kept_from c sound (front ++ e ∷ []) journal (entry_keeps c sound front e before legal.0) (entry_kept c sound front e before kept legal.0) legal.1)

-- before any entry nothing is held or offered
first_kept : (c : Configuration) → TagsKept c (picture_of c [])
first_kept c = record { closed = λ h. tt; few = λ h. omega arith }

pub legal_keeps_tags : (c : Configuration) → IsSound c → (journal : List Entry) → Legal c journal → TagsKept c (picture_of c (effects journal))
legal_keeps_tags c sound journal legal = kept_from c sound [] journal (first_is_sound c sound) (first_kept c) legal

pub legal_is_closed : (c : Configuration) → IsSound c → (journal : List Entry) → Legal c journal → AreClosed c (picture_of c (effects journal))
legal_is_closed c sound journal legal = (legal_keeps_tags c sound journal legal).closed

pub legal_private_tags : (c : Configuration) → IsSound c → (journal : List Entry) → Legal c journal → PrivateTagsClosed c journal
legal_private_tags c sound journal legal h x among private =
    All-contains (IsClosed c (picture_of c (effects journal)) h) (extents_in (view_of c h journal)) x
    (All-from_recursion (IsClosed c (picture_of c (effects journal)) h) (extents_in (view_of c h journal)) (legal_is_closed c sound journal legal h)) among private
