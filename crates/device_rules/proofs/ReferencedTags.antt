-- A tag to which the manager has a reference is open.
use Rattle.std.proofs.Common.{◌≡◌, Bool, true, false, ◌&&◌, ◌||◌, not, List, [], ◌∷◌, ◌++◌, None, refl, sym, ap, subst, ◌∙◌, inl, inr}
use Rattle.std.proofs.lemmas.{Bool.and_parts, Bool.cases_Bool, Bool.false≢true, Bool.not-false, Bool.or_left, Bool.or_right, List.Folds.list_any-append, List.Sums.fold-append}
use Rattle.std.specs.{List.list_all, List.list_any, Prelude.if◌then◌else◌, Prelude.fold}
use Rattle.cci_codec.specs.dcd_base.specs.{Words.has_tag, Words.same_tag, declared.capacity.Tag.Tag, declared.ids.HostId.HostId, declared.steps.LogId.LogId}
use Rattle.extent_list.specs.{dcd_codes.specs.declared.rules.Rule.Rule, media_map.specs.Places.region_at, media_map.specs.region_config.specs.Configurations.Configuration}
use Rattle.extent_list.specs.media_map.specs.region_config.specs.{Granules.hosts_of, Granules.region_spec, Soundness.IsSound}
use Rattle.fm_payloads.specs.declared.requests.FmRequest.{FmRequest}
use Rattle.host_payloads.specs.declared.requests.HostRequest.{HostRequest}
use Rattle.journal_core.{proofs.JournalSteps.effects-push, specs.Entries.effects, specs.declared.entries.Entry.Entry, specs.declared.outcome.Effect.Effect}
use Rattle.device_rules.proofs.{Leaving.over-leaving, LegalSound.legal_is_sound, LegalSteps.Cases, LegalSteps.by_steps, LegalSteps.step_case, Overlaps.not_broken}
use Rattle.device_rules.proofs.{ReferenceSteps.IsReferred, ReferenceSteps.added, ReferenceSteps.referred, SettledTags.has_filter, SettledTags.referenced-outcome, SettledTags.tags-outcome}
use Rattle.device_rules.proofs.{TagEntries.open_uses, TagEntries.uses, TagSteps.same_tag-is}
use Rattle.device_rules.specs.{Answers.host_outcome, Answers.manager_outcome, Answers.manager_rule, Answers.scrubbed, Answers.zeroes, Legal.Legal, Logs.log_of}
use Rattle.device_rules.specs.{Outcomes.Outcome, Outcomes.effects_of, Outcomes.ended, Pictures.picture_of, ReleaseOutcomes.is_cleaning, ReleaseOutcomes.is_forced, ReleaseOutcomes.removed}
use Rattle.device_rules.specs.{ResponseOutcomes.unhold, ShownTags.ReferencedAreOpen, Standing.Sound, TagCommands.add_reference_outcome, TagCommands.remove_reference_outcome}
use Rattle.device_rules.specs.{Tags.is_accepted_by, Tags.is_live, Tags.is_offered_to, Tags.is_referenced, Tags.open_tags, Tags.reference_after, Tags.tags_after, Views.View, Views.view_of}
use Rattle.device_rules.proofs.EffectKinds.{PassClearing, PassHeld, PassLists, clear_passes, give_back_passes, removals_pass, respond_passes, unhold_passes, zeroes_pass}

-- neither a reference nor the end of a tag
abbrev keeps_tags : Effect → Bool
keeps_tags (Effect.Ref t on) = false
keeps_tags (Effect.TagEnd t) = false
keeps_tags e = true

reference-kept : (t : Tag) (on : Bool) (e : Effect) → keeps_tags e ≡ true → reference_after t on e ≡ on
reference-kept t on (Effect.Ref u new) keeps = absurd (false≢true keeps)
reference-kept t on e keeps = refl

one_grows : (c : Configuration) (live : List Tag) (e : Effect) (t : Tag) → keeps_tags e ≡ true → has_tag live t ≡ true → has_tag (tags_after c live e) t ≡ true
one_grows c live (Effect.Offer h []) t keeps has = has
one_grows c live (Effect.Offer h (x ∷ xs)) t keeps has = by ((region_spec c (region_at c h x.start)).shareable && not (has_tag live x.tag))
  where
    by : (new : Bool) → has_tag (if new then live ++ x.tag ∷ [] else live) t ≡ true
    by true = list_any-append (same_tag t) live (x.tag ∷ []) ∙ or_left (has_tag live t) (has_tag (x.tag ∷ []) t) has
    by false = has
one_grows c live (Effect.TagEnd u) t keeps has = absurd (false≢true keeps)
one_grows c live e t keeps has = has

tags_grow : (c : Configuration) (live : List Tag) (new : List Effect) (t : Tag) → list_all keeps_tags new ≡ true → has_tag live t ≡ true → has_tag (fold (tags_after c) live new) t ≡ true
tags_grow c live [] t all has = has
tags_grow c live (e ∷ new) t all has =
    let parts = and_parts (keeps_tags e) (list_all keeps_tags new) all in
    tags_grow c (tags_after c live e) new t parts.1 (one_grows c live e t parts.0 has)

module _ (c : Configuration) (past : List Effect) (now : Sound c (picture_of c past)) (are : ReferencedAreOpen c past) where
  -- effects that keep tags and references
  kept_referenced : (new : List Effect) (t : Tag) → list_all keeps_tags new ≡ true → is_referenced t (past ++ new) ≡ is_referenced t past
  kept_referenced new t all = fold-append (reference_after t) false past new ∙ over-leaving (reference_after t) keeps_tags (reference-kept t) (is_referenced t past) new all

  kept_open : (new : List Effect) → list_all keeps_tags new ≡ true → (t : Tag) → is_referenced t (past ++ new) ≡ true → has_tag (open_tags c (past ++ new)) t ≡ true
  kept_open new all t on =
      ap (λ tags. has_tag tags t) (fold-append (tags_after c) [] past new)
      ∙ tags_grow c (open_tags c past) new t all (are t (sym (kept_referenced new t all) ∙ on))

  -- a tag with a reference is live, and so does not end by a command
  stays_open : (o : Outcome) (t : Tag) → has_tag (open_tags c past) t ≡ true → is_referenced t (past ++ o.changes) ≡ true → has_tag (open_tags c (past ++ o.changes)) t ≡ true →
      has_tag (open_tags c (past ++ effects_of c past o)) t ≡ true
  stays_open o t was on open_tag =
      let mid : List Effect = past ++ o.changes in
      let over : List Tag = ended c past o.changes o.tags in
      let hosts : Bool = list_any (λ h. is_accepted_by c t mid h || is_offered_to t mid h) (hosts_of c) in
      let alive : is_live c t (past ++ o.changes) ≡ true = (λ i. (open_uses c past now t was).0 i && uses c mid t) ∙ or_right hosts (is_referenced t mid) on in
      let stays : has_tag over t ≡ false = has_filter (λ u. has_tag (open_tags c past) u && not (is_live c u mid)) o.tags t
      ∙ (λ i. has_tag o.tags t && (has_tag (open_tags c past) t && not (alive i))) ∙ ap (λ b. has_tag o.tags t && b) (none (has_tag (open_tags c past) t)) ∙ none (has_tag o.tags t) in
      ap (λ tags. has_tag tags t) (tags-outcome c past o) ∙ has_filter (λ u. not (has_tag over u)) (open_tags c mid) t ∙ (λ i. open_tag i && not (stays i))
    where
      none : (b : Bool) → (b && false) ≡ false
      none true = refl
      none false = refl

  outcome_open : (o : Outcome) → list_all keeps_tags o.changes ≡ true → ReferencedAreOpen c (past ++ effects_of c past o)
  outcome_open o all t on =
      let mid_on : is_referenced t (past ++ o.changes) ≡ true = sym (referenced-outcome c past o t) ∙ on in
      stays_open o t (are t (sym (kept_referenced o.changes t all) ∙ mid_on)) mid_on (kept_open o.changes all t mid_on)

  -- a reference is set only to a tag that is open
  referred_open : (o : Outcome) (tag : Tag) (new_on : Bool) → IsReferred c past o.changes tag new_on → (new_on ≡ true → has_tag (open_tags c past) tag ≡ true) → ReferencedAreOpen c (past ++ effects_of c past o)
  referred_open o tag new_on r opened t on =
      let mid_on : is_referenced t (past ++ o.changes) ≡ true = sym (referenced-outcome c past o t) ∙ on in
      let was : has_tag (open_tags c past) t ≡ true = elim (cases_Bool (same_tag tag t)) [
        | inl same ↦ ap (has_tag (open_tags c past)) (sym (same_tag-is tag t same)) ∙ opened (sym (r.referenced t ∙ ap (λ b. if b then new_on else is_referenced t past) same) ∙ mid_on)
        | inr other ↦ are t (sym (r.referenced t ∙ ap (λ b. if b then new_on else is_referenced t past) other) ∙ mid_on)
      ] in
      stays_open o t was mid_on (ap (λ tags. has_tag tags t) r.tags ∙ was)

-- ---- by command

held : (h : HostId) → PassHeld keeps_tags h
held h = record { hold = λ kind xs. refl; unhold = λ kind. refl }

lists : (h : HostId) → PassLists keeps_tags h
lists h = record { answer = λ xs. refl; take = λ run. refl; leave = λ run. refl }

clearing : (l : LogId) → PassClearing keeps_tags l
clearing l = record { cleared = λ n. refl; reset = refl }

host_keeps : (c : Configuration) (h : HostId) (v : View) (q : HostRequest) → list_all keeps_tags (host_outcome c h v q).changes ≡ true
host_keeps c h v (HostRequest.GetEvents log) = refl
host_keeps c h v (HostRequest.ClearEvents log all handles) = clear_passes keeps_tags (LogId.Host h) (clearing (LogId.Host h)) log v.log all handles
host_keeps c h v (HostRequest.GetConfiguration count first) = refl
host_keeps c h v (HostRequest.GetExtents count first) = refl
host_keeps c h v (HostRequest.AddResponse more list) = respond_passes keeps_tags h (held h) (lists h) c v.offers v.responses more list
host_keeps c h v (HostRequest.GiveBack more list) = give_back_passes keeps_tags h (held h) (lists h) c v.releases more list

module _ (c : Configuration) (sound : IsSound c) (before : List Entry) (legal : Legal c before) (are : ReferencedAreOpen c (effects before)) where
  now : Sound c (picture_of c (effects before))
  now = legal_is_sound c sound before legal

  abbrev views : HostId → View
  views k = view_of c k before

  by_changes : (o : Outcome) → list_all keeps_tags o.changes ≡ true → ReferencedAreOpen c (effects before ++ effects_of c (effects before) o)
  by_changes o all = outcome_open c (effects before) now are o all

  by_manager : (q : FmRequest) → manager_rule c (effects before) (λ k. view_of c k before) q ≡ None →
      ReferencedAreOpen c (effects before ++ effects_of c (effects before) (manager_outcome c (effects before) (λ k. view_of c k before) q))
  by_manager (FmRequest.GetEvents log) row = by_changes (manager_outcome c (effects before) views (FmRequest.GetEvents log)) refl
  by_manager (FmRequest.ClearEvents log all handles) row =
      by_changes (manager_outcome c (effects before) views (FmRequest.ClearEvents log all handles)) (clear_passes keeps_tags LogId.Manager (clearing LogId.Manager) log (log_of LogId.Manager (effects before)) all handles)
  by_manager FmRequest.GetInfo row = by_changes (manager_outcome c (effects before) views FmRequest.GetInfo) refl
  by_manager (FmRequest.GetRegions host count first) row = by_changes (manager_outcome c (effects before) views (FmRequest.GetRegions host count first)) refl
  by_manager (FmRequest.SetRegion r sanitize size) row = by_changes (manager_outcome c (effects before) views (FmRequest.SetRegion r sanitize size)) refl
  by_manager (FmRequest.GetExtentLists host count first) row = by_changes (manager_outcome c (effects before) views (FmRequest.GetExtentLists host count first)) refl
  by_manager (FmRequest.Add host policy r bytes tag list) row = by_changes (manager_outcome c (effects before) views (FmRequest.Add host policy r bytes tag list)) refl
  by_manager (FmRequest.Remove host flags r bytes tag list) row =
      by_changes (manager_outcome c (effects before) views (FmRequest.Remove host flags r bytes tag list))
      (removals_pass keeps_tags host (λ run. refl) (λ run. refl) c (is_forced flags) (is_cleaning flags) (removed (view_of c host before).accepted flags tag list))
  by_manager (FmRequest.AddReference tag) row = referred_open c (effects before) now are (add_reference_outcome (effects before) tag) tag true (added c (effects before) tag)
      (λ on. not-false (has_tag (open_tags c (effects before)) tag) (not_broken (not (has_tag (open_tags c (effects before)) tag)) Rule.NoSuchTag row))
  by_manager (FmRequest.RemoveReference tag) row = referred_open c (effects before) now are (remove_reference_outcome tag) tag false (referred c (effects before) tag false) (λ on. absurd (false≢true on))
  by_manager (FmRequest.ListTags first count) row = by_changes (manager_outcome c (effects before) views (FmRequest.ListTags first count)) refl

  cases : Cases c before (λ new. ReferencedAreOpen c (effects before ++ new))
  cases = record {
    nothing = kept_open c (effects before) now are [] refl;
    refused = λ h kind xs. kept_open c (effects before) now are (unhold h kind xs) (unhold_passes keeps_tags h (held h) kind xs);
    host = λ h q known row. by_changes (host_outcome c h (view_of c h before) q) (host_keeps c h (view_of c h before) q);
    manager = by_manager;
    scrub = λ n. kept_open c (effects before) now are (zeroes c (scrubbed c (effects before) n)) (zeroes_pass keeps_tags (λ run. refl) c (scrubbed c (effects before) n));
  }

-- So it is after every legal journal.
pub referenced_open : (c : Configuration) → IsSound c → (journal : List Entry) → Legal c journal → ReferencedAreOpen c (effects journal)
referenced_open c sound = by_steps c (λ journal. ReferencedAreOpen c (effects journal)) (λ t on. absurd (false≢true on))
    (λ before e legal are meets. subst (ReferencedAreOpen c) (sym (effects-push before e)) (step_case c before (λ new. ReferencedAreOpen c (effects before ++ new)) (cases c sound before legal are) e meets))
