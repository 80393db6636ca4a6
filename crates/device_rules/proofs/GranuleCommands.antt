-- What is kept of a granule stays right over each step of a legal journal, command by command.
use Rattle.std.proofs.Common.{◌≡◌, ℕ, ◌%◌, ◌<◌, Bool, true, false, not, ◌&&◌, ◌==◌, List, [], ◌∷◌, ◌++◌, length, map, None, inl, inr, refl, sym, ap, subst, ◌∙◌, arith, leb, ltb}
use Rattle.std.proofs.lemmas.{Bool.cases_Bool, Bool.false≢true, Bool.leb-false, Bool.or_left, Bool.or_right, List.Folds.list_any-append}
use Rattle.std.specs.{List.AllByRecursion, List.list_all, List.list_any, Prelude.flat_map, Prelude.if◌then◌else◌}
use Rattle.cci_codec.specs.dcd_base.specs.{Words.◌or◌, Words.has_granule, Words.same_tag, Words.where_true, declared.capacity.Extent.Extent, declared.capacity.Tag.Tag, declared.ids.HostId.HostId}
use Rattle.cci_codec.specs.dcd_base.specs.declared.{media.Run.Run, steps.LogId.LogId}
use Rattle.extent_list.specs.{ExtentLists.count_in, ExtentLists.is_in, ExtentLists.marked, Listing.incomplete, Listing.too_many_extents, Listing.too_many_listed}
use Rattle.extent_list.specs.{dcd_codes.specs.Rules.◌breaks◌, dcd_codes.specs.Rules.each_in, dcd_codes.specs.declared.rules.Rule.Rule, media_map.specs.Places.region_at, media_map.specs.Places.run_of}
use Rattle.extent_list.specs.media_map.specs.region_config.specs.{Configurations.Configuration, Granules.granule_size, Granules.region_of, Granules.region_spec, Granules.with_blocks}
use Rattle.extent_list.specs.media_map.specs.region_config.specs.Soundness.{IsSound}
use Rattle.fm_payloads.specs.declared.requests.FmRequest.{FmRequest}
use Rattle.host_payloads.specs.declared.requests.HostRequest.{HostRequest}
use Rattle.journal_core.{proofs.JournalSteps.effects-push, specs.Entries.effects, specs.declared.entries.Entry.Entry, specs.declared.outcome.Effect.Effect, specs.declared.outcome.HeldKind.HeldKind}
use Rattle.offer_core.specs.{Offerings.oldest_of, Responses.response_list_rule, Responses.respond_rule}
use Rattle.release_core.specs.{Leaving.count_after, Removals.by_tag_rule, Removals.prescribed_removal_rule, Removals.extents_of_tag}
use Rattle.device_rules.proofs.{Adding.IsAdded, Adding.added, Adding.row_of, CutSteps.in_has, ExclusiveHolding.legal_holdings, Going.IsGoing, Going.some_going, GranuleAnswers.keeps_answer}
use Rattle.device_rules.proofs.{GranuleEnds.keeps_command, GranuleLeaves.claimed_tagged, GranuleLeaves.keeps_removal, GranuleOffers.keeps_offer}
use Rattle.device_rules.proofs.{GranuleSteps.Keeps, GranuleSteps.keeps_outcome, GranuleSteps.keeps_quiet, GranuleZeros.keeps_scrub, Holding.home_made, Holding.present_whole}
use Rattle.device_rules.proofs.{Leaving.both_pass, Leaving.is_quiet, Leaving.leaves_tags, LeftStanding.going_of, LeftStanding.going_rule, LegalSound.legal_is_sound, LegalSteps.step_case}
use Rattle.device_rules.proofs.{ListSteps.any-map, ListSteps.each-back, ListSteps.each-change, ListSteps.each-front, ListSteps.each-map, OneAnswer.IsAnswer, OneLeave.accepted_made, OneLeave.loose}
use Rattle.device_rules.proofs.{OneOffer.reaches, Overlaps.not_broken, Responding.answer_of, RunEffects.in_extents, RunEffects.removals-leaves, StatusOutcomes.unhold-quiet, WholeRuns.each_one_run}
use Rattle.device_rules.specs.{Adding.add_outcome, Adding.add_rule, Adding.offered, Answers.host_outcome, Answers.host_rule, Answers.manager_outcome, Answers.manager_rule, EventCommands.clear_outcome}
use Rattle.device_rules.specs.{GranuleCells.IsCell, GranuleCells.cell_over, GranuleTable.AreKnown, GranuleTable.StaysRight, Hosts.offers_of, Invariants.Holdings, Legal.Legal, Legal.Meets, Logs.log_of}
use Rattle.device_rules.specs.{Outcomes.Outcome, Outcomes.effects_of, Outcomes.log_full, Pictures.Picture, Pictures.extents_at, Pictures.picture_of}
use Rattle.device_rules.specs.ReleaseOutcomes.{give_back_outcome, is_cleaning, is_forced, policy_in, removals, remove_outcome, remove_rule, removed}
use Rattle.device_rules.specs.{ResponseOutcomes.respond_changes, ResponseOutcomes.respond_outcome, ResponseOutcomes.unhold, Settings.set_outcome}
use Rattle.device_rules.specs.{Standing.IsHome, Standing.IsMade, Standing.Sound, Standing.Stands, TagCommands.add_reference_outcome, TagCommands.remove_reference_outcome}
use Rattle.device_rules.specs.{Tags.is_referenced, Tags.is_tagged, Views.View, Views.view_of}
use Rattle.selection.proofs.Prescribed.{neither}
use Rattle.device_rules.proofs.EffectKinds.{PassClearing, PassHeld, PassLists, clear_passes, give_back_passes, hold_passes, reference_passes, removals_pass, respond_passes}

quiet_held : (h : HostId) → PassHeld is_quiet h
quiet_held h = record { hold = λ kind xs. refl; unhold = λ kind. refl }

quiet_clearing : (l : LogId) → PassClearing is_quiet l
quiet_clearing l = record { cleared = λ n. refl; reset = refl }

held_tags : (h : HostId) → PassHeld leaves_tags h
held_tags h = record { hold = λ kind xs. refl; unhold = λ kind. refl }

lists_tags : (h : HostId) → PassLists leaves_tags h
lists_tags h = record { answer = λ xs. refl; take = λ run. refl; leave = λ run. refl }

-- what is in the oldest offer is in an offer
in_oldest : (test : Extent → Bool) (offers : List (List Extent)) → list_any test (oldest_of offers) ≡ true → list_any test (flat_map (λ xs. xs) offers) ≡ true
in_oldest test [] some = absurd (false≢true some)
in_oldest test (offer ∷ later) some = list_any-append test offer (flat_map (λ xs. xs) later) ∙ or_left (list_any test offer) (list_any test (flat_map (λ xs. xs) later)) some

each_oldest : (P : Extent → Type 0) (offers : List (List Extent)) → AllByRecursion P (flat_map (λ xs. xs) offers) → AllByRecursion P (oldest_of offers)
each_oldest P [] each = tt
each_oldest P (offer ∷ later) each = each-front P offer (flat_map (λ xs. xs) later) each

-- ---- what is to leave a host

-- each extent is made of blocks, and lies in an accepted one
record IsLeaving (c : Configuration) (p : Picture) (h : HostId) (ys : List Extent) : Type 0 where
  made : AllByRecursion (λ y. IsMade c (p.block (region_at c h y.start)) h (region_at c h y.start) y) ys
  inside : AllByRecursion (λ y. is_in (p.accepted h) y ≡ true) ys

leaving : (c : Configuration) (p : Picture) (h : HostId) (ys : List Extent) → IsGoing c p h ys → IsLeaving c p h ys
leaving c p h ys going = record { made = going.made; inside = going.inside }

-- with the tags of those
leaving_marked : (c : Configuration) (p : Picture) (h : HostId) (owners ys : List Extent) → IsLeaving c p h ys → IsLeaving c p h (map (marked owners) ys)
leaving_marked c p h owners ys l = record {
  made = each-map (λ y. IsMade c (p.block (region_at c h y.start)) h (region_at c h y.start) y) (λ y. IsMade c (p.block (region_at c h y.start)) h (region_at c h y.start) y) (marked owners)
      (λ y m. record { known = m.known; some = m.some; from = m.from; within = m.within; begins = m.begins; ends = m.ends }) ys l.made;
  inside = each-map (λ y. is_in (p.accepted h) y ≡ true) (λ y. is_in (p.accepted h) y ≡ true) (marked owners) (λ y is. is) ys l.inside;
}

module _ (c : Configuration) (sound : IsSound c) (before : List Entry) (now : Sound c (picture_of c (effects before))) (kept : Holdings c before)
    (oldest : HostId → List Extent) (runs : Tag → List Run) (known : AreKnown c before oldest runs) (g : ℕ) where
  abbrev past : List Effect
  past = effects before

  abbrev p : Picture
  p = picture_of c (effects before)

  s : Stands c (picture_of c (effects before))
  s = now.stands

  whole : (r : ℕ) → r < length c.regions → p.block r % granule_size c r ≡ 0
  whole = present_whole c sound (picture_of c (effects before)) s

  -- a command that changes no granule
  quiet_command : (o : Outcome) → list_all is_quiet o.changes ≡ true → list_all leaves_tags o.changes ≡ true → Keeps c oldest runs g (effects before) (effects_of c (effects before) o)
  quiet_command o quiet left = keeps_command c sound before s oldest runs known g o left (keeps_quiet c oldest runs g (effects before) o.changes quiet)

  -- ---- by host

  module _ (h : HostId) (host : h < c.hosts) where
    accepted_each : AllByRecursion (λ x. IsMade c (p.block (region_at c h x.start)) h (region_at c h x.start) x) (p.accepted h)
    accepted_each = accepted_made c sound p (loose c p s) h host

    -- a granule of an extent of the host
    claimed : (g : ℕ) → (region_spec c (region_of c g)).shareable ≡ true → reaches c h (extents_at p h) g ≡ true → is_tagged c g (effects before) ≡ true
    claimed m shared has = claimed_tagged c sound (effects before) s h m host shared has

    -- what lies in the extents of a list has granules of the list alone
    all_inside : (owners xs : List Extent) → AllByRecursion (λ x. IsMade c (p.block (region_at c h x.start)) h (region_at c h x.start) x) owners →
        AllByRecursion (λ x. IsMade c (p.block (region_at c h x.start)) h (region_at c h x.start) x) xs → AllByRecursion (λ x. is_in owners x ≡ true) xs →
        reaches c h xs g ≡ true → reaches c h owners g ≡ true
    all_inside owners [] made_owners made inside some = absurd (false≢true some)
    all_inside owners (x ∷ xs) made_owners made inside some = elim (cases_Bool (has_granule (run_of c h x) g)) [
      | inl has ↦ in_has c h sound host p.block whole x made.0 owners made_owners inside.0 g has
      | inr lacks ↦ all_inside owners xs made_owners made.1 inside.1 (rw lacks at some)
    ]

    -- ---- what leaves

    removal : (front : List Effect) → list_all is_quiet front ≡ true → (clean : Bool) (ys : List Extent) → IsLeaving c (picture_of c (effects before)) h ys →
        Keeps c oldest runs g (effects before) (front ++ removals c h clean ys)
    removal front quiet clean ys l =
        keeps_removal c sound before s kept oldest runs g front quiet h clean ys (each_one_run c sound h host p.block whole ys l.made)
        (λ here. s.held h g ∙ any-map (λ run. has_granule run g) (run_of c h) (p.accepted h) ∙ accepted_has here)
        (λ here shared. claimed g shared (list_any-append (λ x. has_granule (run_of c h x) g) (p.accepted h) (flat_map (λ xs. xs) (p.offers h))
        ∙ or_left (reaches c h (p.accepted h) g) (reaches c h (flat_map (λ xs. xs) (p.offers h)) g) (accepted_has here)))
      where
        accepted_has : in_extents c h ys g ≡ true → reaches c h (p.accepted h) g ≡ true
        accepted_has here = all_inside (p.accepted h) ys accepted_each l.made l.inside (sym (any-map (λ run. has_granule run g) (run_of c h) ys) ∙ here)

    -- ---- 4802h

    responded : (offers : List (List Extent)) → offers_of h (effects before) ≡ offers → (list : List Extent) →
        respond_rule (with_blocks c (view_of c h before).block) h (length (view_of c h before).accepted) offers (view_of c h before).responses false list ≡ None →
        Keeps c oldest runs g (effects before) (respond_changes c h offers (view_of c h before).responses false list)
    responded [] is list row = keeps_quiet c oldest runs g (effects before) (unhold h HeldKind.Responses (view_of c h before).responses ++ [])
        (both_pass is_quiet (unhold h HeldKind.Responses (view_of c h before).responses) [] (unhold-quiet h HeldKind.Responses (view_of c h before).responses) refl)
    responded (offer ∷ later) is list row =
        let v : View = view_of c h before in
        let all : List Extent = v.responses ++ list in
        let rules = neither (too_many_listed all) (response_list_rule (with_blocks c v.block) h (length v.accepted) (offer ∷ later) all) row in
        let a : IsAnswer c (picture_of c (effects before)) h offer later (v.responses ++ list) = answer_of c sound p s h host offer later all rules.1 in
        let first : oldest_of (offers_of h (effects before)) ≡ offer = ap oldest_of is in
        let homes : AllByRecursion (λ x. IsMade c (p.block (region_at c h x.start)) h (region_at c h x.start) x) (oldest_of (offers_of h (effects before))) =
        each_oldest (λ x. IsMade c (p.block (region_at c h x.start)) h (region_at c h x.start) x) (offers_of h (effects before))
        (each-back (λ x. IsMade c (p.block (region_at c h x.start)) h (region_at c h x.start) x) (p.accepted h) (flat_map (λ xs. xs) (p.offers h))
        (each-change (IsHome c p h) (λ x. IsMade c (p.block (region_at c h x.start)) h (region_at c h x.start) x) (λ x m. home_made c sound p s h x host m) (extents_at p h) (s.home h))) in
        let test : Extent → Bool = λ x. has_granule (run_of c h x) g in
        let offered_made = subst (AllByRecursion (λ x. IsMade c (p.block (region_at c h x.start)) h (region_at c h x.start) x)) first homes in
        keeps_answer c sound before s kept oldest runs known g (unhold h HeldKind.Responses v.responses) (unhold-quiet h HeldKind.Responses v.responses)
        h host (map (marked offer) (v.responses ++ list)) (v.responses ++ list) (each_one_run c sound h host p.block whole (v.responses ++ list) a.made)
        (each_one_run c sound h host p.block whole (oldest_of (offers_of h (effects before))) homes)
        (λ here. ap (λ xs. in_extents c h xs g) first ∙ any-map (λ run. has_granule run g) (run_of c h) offer ∙ all_inside offer (v.responses ++ list) offered_made a.made a.inside
        (sym (any-map (λ run. has_granule run g) (run_of c h) (v.responses ++ list)) ∙ here))
        (λ here shared. claimed g shared (list_any-append test (p.accepted h) (flat_map (λ xs. xs) (p.offers h))
        ∙ or_right (list_any test (p.accepted h)) (list_any test (flat_map (λ xs. xs) (p.offers h)))
        (in_oldest test (p.offers h) (sym (any-map (λ run. has_granule run g) (run_of c h) (oldest_of (offers_of h (effects before)))) ∙ here))))

    host_case : (q : HostRequest) → host_rule c h (view_of c h before) q ≡ None → Keeps c oldest runs g (effects before) (effects_of c (effects before) (host_outcome c h (view_of c h before) q))
    host_case (HostRequest.GetEvents log) row = keeps_quiet c oldest runs g (effects before) [] refl
    host_case (HostRequest.GetConfiguration count first) row = keeps_quiet c oldest runs g (effects before) [] refl
    host_case (HostRequest.GetExtents count first) row = keeps_quiet c oldest runs g (effects before) [] refl
    host_case (HostRequest.ClearEvents number all handles) row = quiet_command (clear_outcome (LogId.Host h) number (view_of c h before).log all handles)
        (clear_passes is_quiet (LogId.Host h) (quiet_clearing (LogId.Host h)) number (view_of c h before).log all handles)
        (clear_passes leaves_tags (LogId.Host h) (record { cleared = λ n. refl; reset = refl }) number (view_of c h before).log all handles)
    host_case (HostRequest.AddResponse true list) row = quiet_command (respond_outcome c h (view_of c h before) true list)
        (hold_passes is_quiet h (quiet_held h) HeldKind.Responses list) (hold_passes leaves_tags h (held_tags h) HeldKind.Responses list)
    host_case (HostRequest.AddResponse false list) row = keeps_command c sound before s oldest runs known g (respond_outcome c h (view_of c h before) false list)
        (respond_passes leaves_tags h (held_tags h) (lists_tags h) c (view_of c h before).offers (view_of c h before).responses false list)
        (responded (offers_of h (effects before)) refl list row)
    host_case (HostRequest.GiveBack true list) row = quiet_command (give_back_outcome c h (view_of c h before) true list)
        (hold_passes is_quiet h (quiet_held h) HeldKind.Releases list) (hold_passes leaves_tags h (held_tags h) HeldKind.Releases list)
    host_case (HostRequest.GiveBack false list) row =
        let v : View = view_of c h before in
        let ys : List Extent = v.releases ++ list in
        let w : Configuration = with_blocks c v.block in
        let rules = neither (too_many_listed ys) ((each_in ys (going_rule w h v.accepted (λ x. region_at w h x.start)) or incomplete w h v.accepted ys) or too_many_extents (count_after v.accepted (count_in v.offers) ys)) row in
        let inner = neither ((each_in ys (going_rule w h v.accepted (λ x. region_at w h x.start)) or incomplete w h v.accepted ys)) (too_many_extents (count_after v.accepted (count_in v.offers) ys)) rules.1 in
        let going = going_of c sound p s h host (λ x. region_at w h x.start) ys inner.0 in
        keeps_command c sound before s oldest runs known g (give_back_outcome c h v false list)
        (give_back_passes leaves_tags h (held_tags h) (lists_tags h) c v.releases false list)
        (subst (λ gone. Keeps c oldest runs g (effects before) (unhold h HeldKind.Releases (view_of c h before).releases ++ gone)) (removals-leaves c h ((view_of c h before).releases ++ list))
        (removal (unhold h HeldKind.Releases v.releases) (unhold-quiet h HeldKind.Releases v.releases) false (v.releases ++ list) (leaving c p h ys going)))

    -- ---- 5605h

    listed : (r : ℕ) (list : List Extent) (forced : Bool) → prescribed_removal_rule (with_blocks c p.block) h (p.accepted h) (count_in (p.offers h)) r list forced ≡ None → IsLeaving c (picture_of c (effects before)) h list
    listed r list forced row =
        let w : Configuration = with_blocks c p.block in
        let acc : List Extent = p.accepted h in
        let p4 = neither _ (each_in list (going_rule w h acc (λ x. r)) or incomplete w h acc list) (neither _ (where_true forced (too_many_extents (count_after (p.accepted h) (count_in (p.offers h)) list))) row).0 in
        leaving c p h list (going_of c sound p s h host (λ x. r) list p4.1)

    to_remove : (by_tag forced : Bool) (r : ℕ) (tag : Tag) (list : List Extent)
        → (if by_tag then by_tag_rule (p.accepted h) tag else prescribed_removal_rule (with_blocks c p.block) h (p.accepted h) (count_in (p.offers h)) r list forced) ≡ None
        → IsLeaving c (picture_of c (effects before)) h (if by_tag then extents_of_tag tag (p.accepted h) else map (marked (p.accepted h)) list)
    to_remove true forced r tag list row = leaving c p h (extents_of_tag tag (p.accepted h)) (some_going c sound p (loose c p s) h host (λ x. same_tag x.tag tag))
    to_remove false forced r tag list row = leaving_marked c p h (p.accepted h) list (listed r list forced row)

    by_force : (forced clean : Bool) (ys : List Extent) → IsLeaving c (picture_of c (effects before)) h ys → Keeps c oldest runs g (effects before) (if forced then removals c h clean ys else [])
    by_force true clean ys l = removal [] refl clean ys l
    by_force false clean ys l = keeps_quiet c oldest runs g (effects before) [] refl

  remove_case : (h flags r bytes : ℕ) (tag : Tag) (list : List Extent) → remove_rule c (λ k. view_of c k before) h flags r tag list ≡ None →
      Keeps c oldest runs g (effects before) (effects_of c (effects before) (remove_outcome c (λ k. view_of c k before) h flags tag list))
  remove_case h flags r bytes tag list row =
      let v : View = view_of c h before in
      let by_row = if policy_in flags == 0 then by_tag_rule v.accepted tag else prescribed_removal_rule (with_blocks c v.block) h v.accepted (count_in v.offers) r list (is_forced flags) in
      let p5 = neither _ (log_full h v.log (length (removed v.accepted flags tag list))) row in
      let p4 = neither _ by_row p5.0 in
      let p3 = neither _ (ltb 1 (policy_in flags) breaks Rule.NoSuchPolicy (policy_in flags)) p4.0 in
      let p2 = neither (leb c.hosts h breaks Rule.NoSuchHost h) ((is_cleaning flags && not (is_forced flags)) breaks Rule.UnsupportedFlag) p3.0 in
      let host : h < c.hosts = leb-false _ _ (not_broken (leb c.hosts h) (Rule.NoSuchHost h) p2.0) in
      let all : List Extent = removed v.accepted flags tag list in
      keeps_command c sound before s oldest runs known g (remove_outcome c (λ k. view_of c k before) h flags tag list)
      (removals_pass leaves_tags h (λ run. refl) (λ run. refl) c (is_forced flags) (is_cleaning flags) all)
      (by_force h host (is_forced flags) (is_cleaning flags) all (to_remove h host (policy_in flags == 0) (is_forced flags) r tag list p4.1))

  -- ---- 5604h

  offer_case : (h : HostId) (r : ℕ) (tag : Tag) (new : List Extent) → IsAdded c (picture_of c (effects before)) h r tag new → Keeps c oldest runs g (effects before) (Effect.Offer h new ∷ [])
  offer_case h r tag [] a = absurd (omega (arith, a.some))
  offer_case h r tag (x ∷ rest) a = keeps_offer c sound (effects before) s oldest runs g h r tag x rest a

  add_case : (h policy r bytes : ℕ) (tag : Tag) (list : List Extent) → add_rule c (effects before) (λ k. view_of c k before) h policy r bytes tag list ≡ None →
      Keeps c oldest runs g (effects before) (effects_of c (effects before) (add_outcome c (effects before) (λ k. view_of c k before) h policy r bytes tag list))
  add_case h policy r bytes tag list row =
      let o : Outcome = add_outcome c (effects before) (λ k. view_of c k before) h policy r bytes tag list in
      keeps_outcome c oldest runs g (effects before) o
      (offer_case h r tag (offered c (effects before) h policy r bytes tag list) (added c sound (effects before) now h r tag bytes list policy (row_of c before h policy r bytes tag list row)))
      (keeps_quiet c oldest runs g (effects before ++ o.changes) [] refl)

  -- ---- the manager's

  manager_case : (q : FmRequest) → manager_rule c (effects before) (λ h. view_of c h before) q ≡ None →
      Keeps c oldest runs g (effects before) (effects_of c (effects before) (manager_outcome c (effects before) (λ h. view_of c h before) q))
  manager_case (FmRequest.GetEvents log) row = keeps_quiet c oldest runs g (effects before) [] refl
  manager_case FmRequest.GetInfo row = keeps_quiet c oldest runs g (effects before) [] refl
  manager_case (FmRequest.GetRegions host count first) row = keeps_quiet c oldest runs g (effects before) [] refl
  manager_case (FmRequest.GetExtentLists host count first) row = keeps_quiet c oldest runs g (effects before) [] refl
  manager_case (FmRequest.ListTags first count) row = keeps_quiet c oldest runs g (effects before) [] refl
  manager_case (FmRequest.ClearEvents number all handles) row = quiet_command (clear_outcome LogId.Manager number (log_of LogId.Manager (effects before)) all handles)
      (clear_passes is_quiet LogId.Manager (quiet_clearing LogId.Manager) number (log_of LogId.Manager (effects before)) all handles)
      (clear_passes leaves_tags LogId.Manager (record { cleared = λ n. refl; reset = refl }) number (log_of LogId.Manager (effects before)) all handles)
  manager_case (FmRequest.SetRegion r sanitize size) row = quiet_command (set_outcome c (λ h. view_of c h before) r size) refl refl
  manager_case (FmRequest.Add host policy r bytes tag list) row = add_case host policy r bytes tag list row
  manager_case (FmRequest.Remove host flags r bytes tag list) row = remove_case host flags r bytes tag list row
  manager_case (FmRequest.AddReference tag) row = quiet_command (add_reference_outcome (effects before) tag)
      (reference_passes is_quiet tag refl (is_referenced tag (effects before))) (reference_passes leaves_tags tag refl (is_referenced tag (effects before)))
  manager_case (FmRequest.RemoveReference tag) row = quiet_command (remove_reference_outcome tag) refl refl

  -- ---- any step

  step_keeps : (e : Entry) → Meets c before e → Keeps c oldest runs g (effects before) e.effects
  step_keeps e meets = step_case c before (λ new. Keeps c oldest runs g (effects before) new) (record {
    nothing = keeps_quiet c oldest runs g (effects before) [] refl;
    refused = λ h kind xs. keeps_quiet c oldest runs g (effects before) (unhold h kind xs) (unhold-quiet h kind xs);
    host = λ h q host row. host_case h host q row;
    manager = λ q row. manager_case q row;
    scrub = λ n. keeps_scrub c oldest runs g (effects before) n;
  }) e meets

-- After each entry of a legal journal what is kept of a granule is right.
pub granules_kept : (c : Configuration) → IsSound c → (before : List Entry) → Legal c before → (e : Entry) → Meets c before e → StaysRight c before e
granules_kept c sound before legal e meets oldest runs known g within cell is =
    subst (λ past. IsCell c past g (cell_over c oldest runs g cell e.effects)) (sym (effects-push before e))
    (step_keeps c sound before (legal_is_sound c sound before legal) (legal_holdings c sound before legal) oldest runs known g e meets cell is)
