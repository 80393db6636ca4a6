-- What a host accepts was offered, and so its words are 0 where the region is sanitized.
use Rattle.std.proofs.Common.{◌≡◌, ℕ, ◌+◌, ◌<◌, ◌≤◌, Bool, true, false, ◌||◌, List, [], ◌∷◌, ◌++◌, Option, Some, None, length, map, inl, inr, refl, sym, ap, subst, ◌∙◌, arith}
use Rattle.std.proofs.lemmas.{Bool.and_parts, Bool.cases_Bool, Bool.false≢true, Bool.or_left, List.Folds.list_any-append}
use Rattle.std.specs.{List.AllByRecursion, List.list_all, List.list_any, Prelude.flat_map, declared.result.Result.Result, declared.result.Result.TheVariants.Ok, declared.result.Result.TheVariants.Err}
use Rattle.cci_codec.specs.declared.messages.Request.{Request}
use Rattle.dcd_base.specs.{Words.has_granule, Words.has_in_runs, declared.capacity.Extent.Extent, declared.faults.PayloadFault.PayloadFault as HostFault, declared.ids.HostId.HostId}
use Rattle.dcd_base.specs.declared.{media.Place.Place, steps.LogId.LogId}
use Rattle.extent_list.specs.{ExtentLists.is_in, ExtentLists.lies_in, ExtentLists.marked, Listing.too_many_listed, dcd_codes.specs.declared.rules.Rule.Rule}
use Rattle.extent_list.specs.media_map.specs.{Places.IsPlace, Places.run_of, region_config.specs.Configurations.Configuration}
use Rattle.extent_list.specs.media_map.specs.region_config.specs.{Granules.hosts_of, Granules.region_of, Granules.region_spec, Granules.with_blocks, Soundness.IsSound}
use Rattle.host_payloads.specs.{HostPayloads.host_request, declared.requests.HostRequest.HostRequest}
use Rattle.journal_core.specs.{Entries.effects, Holders.holds, declared.acts.Act.Act, declared.entries.Entry.Entry, declared.outcome.Effect.Effect, declared.outcome.HeldKind.HeldKind}
use Rattle.offer_core.specs.Responses.{response_list_rule}
use Rattle.device_rules.proofs.{EffectKinds.PassHeld, EffectKinds.clear_passes, EffectKinds.dropped_passes, EffectKinds.hold_passes, EffectKinds.unhold_passes, HostSearches.any_none}
use Rattle.device_rules.proofs.{Leaving.both_pass, Leaving.map_passes, LegalSound.legal_is_sound}
use Rattle.device_rules.proofs.ListSteps.{any-map, each-at, each-back, each-change, each-front, many-any, many-append}
use Rattle.device_rules.proofs.{OneAnswer.any-of-each, OneOffer.any-implies, OneOffer.reaches, Responding.answer_of}
use Rattle.device_rules.specs.{Answers.dropped, Answers.host_outcome, Answers.host_result, Answers.host_rule, Answers.unless, Hosts.accepted_of, Hosts.offers_of, Legal.Legal, Legal.word_of}
use Rattle.device_rules.specs.{Outcomes.Outcome, Pictures.Picture, Pictures.count_on, Pictures.extents_at, Pictures.picture_of, ReleaseOutcomes.leaves}
use Rattle.device_rules.specs.{ResponseOutcomes.answered, ResponseOutcomes.unhold, Standing.IsHome, Standing.Stands, Tags.is_free, Tags.is_held, Tags.is_offered, Tags.status}
use Rattle.device_rules.specs.Views.{View, view_of}
use Rattle.selection.proofs.Prescribed.{neither}
use Rattle.isolation_laws.proofs.{AcceptedBytes.or_either, AcceptedBytes.within_has, GrantedPlaces.home_has, GrantedPlaces.region_of_place, ZeroSteps.any_host}
use Rattle.isolation_laws.specs.{Laws.Clean, Laws.is_offered_status, Solo.accepts_byte, Solo.changes_with, Solo.has_byte, Solo.own_changes}

-- ---- what accepts nothing

abbrev is_no_answer : Effect → Bool
is_no_answer (Effect.Answer h xs) = false
is_no_answer e = true

one_accepts : (d : ℕ) (e : Effect) → is_no_answer e ≡ true → accepts_byte d e ≡ false
one_accepts d (Effect.Answer h xs) none = absurd (false≢true none)
one_accepts d e none = refl

none_accepted : (d : ℕ) (new : List Effect) → list_all is_no_answer new ≡ true → list_any (accepts_byte d) new ≡ false
none_accepted d [] all = refl
none_accepted d (e ∷ new) all = let parts = and_parts (is_no_answer e) (list_all is_no_answer new) all in (λ i. one_accepts d e parts.0 i || none_accepted d new parts.1 i)

held : (h : HostId) → PassHeld is_no_answer h
held h = record { hold = λ kind xs. refl; unhold = λ kind. refl }

module _ (c : Configuration) (sound : IsSound c) (before : List Entry) (legal : Legal c before) (clean : Clean c before) (h : HostId) (host : h < c.hosts)
    (d : ℕ) (p : Place) (place : IsPlace c h d p) (private : (region_spec c p.region).shareable ≡ false) (zeroed : (region_spec c p.region).sanitize ≡ true) where
  abbrev past : List Effect
  past = effects before

  abbrev now : Picture
  now = picture_of c (effects before)

  s : Stands c (picture_of c (effects before))
  s = (legal_is_sound c sound before legal).stands

  abbrev g : ℕ
  g = p.granule

  alone : (region_spec c (region_of c p.granule)).shareable ≡ false
  alone = ap (λ r. (region_spec c r).shareable) (region_of_place c sound h host d p place) ∙ private

  sanitized : (region_spec c (region_of c p.granule)).sanitize ≡ true
  sanitized = ap (λ r. (region_spec c r).sanitize) (region_of_place c sound h host d p place) ∙ zeroed

  -- ---- a granule of the oldest offer

  module _ (offer : List Extent) (later : List (List Extent)) (offers : offers_of h (effects before) ≡ offer ∷ later) (here : list_any (has_byte d) offer ≡ true) where
    homes : AllByRecursion (IsHome c (picture_of c (effects before)) h) offer
    homes = each-front (IsHome c now h) offer (flat_map (λ xs. xs) later)
        (each-back (IsHome c now h) (now.accepted h) (offer ++ flat_map (λ xs. xs) later)
        (subst (AllByRecursion (IsHome c now h)) (ap (λ os. now.accepted h ++ flat_map (λ xs. xs) os) offers) (s.home h)))

    offer_reaches : reaches c h offer p.granule ≡ true
    offer_reaches = any-of-each (has_byte d) (λ x. has_granule (run_of c h x) g) offer
        (each-change (IsHome c now h) (λ x. has_byte d x ≡ true → has_granule (run_of c h x) g ≡ true) (λ x a e. sym (home_has c sound h host d p place past s x a) ∙ e) offer homes) here

    -- one of the host's at least, beside its accepted ones
    offered_once : count_on c h p.granule (now.accepted h) + 1 ≤ count_on c h p.granule (extents_at (picture_of c (effects before)) h)
    offered_once = omega (
      arith,
      ap (λ os. count_on c h g (now.accepted h ++ flat_map (λ xs. xs) os)) offers,
      many-append (λ x. has_granule (run_of c h x) g) (now.accepted h) (offer ++ flat_map (λ xs. xs) later),
      many-append (λ x. has_granule (run_of c h x) g) offer (flat_map (λ xs. xs) later),
      many-any (λ x. has_granule (run_of c h x) g) offer offer_reaches,
    )

    accepted_once : (k : HostId) → holds k p.granule (effects before) ≡ true → 0 < count_on c k p.granule (accepted_of c k (effects before))
    accepted_once k e = many-any (λ x. has_granule (run_of c k x) g) (now.accepted k) (sym (s.held k g ∙ any-map (λ run. has_granule run g) (run_of c k) (now.accepted k)) ∙ e)

    not_own : holds h p.granule (effects before) ≡ true → ⊥
    not_own e = absurd (omega (arith, accepted_once h e, offered_once, s.once h g))

    nobody : (k : HostId) → holds k p.granule (effects before) ≡ false
    nobody k = elim (cases_Bool (holds k g past)) [
      | inr out ↦ out
      | inl e ↦ (let same : h ≡ k = s.one h k g alone (omega (arith, offered_once))
          (omega (arith, accepted_once k e, many-append (λ x. has_granule (run_of c k x) g) (now.accepted k) (flat_map (λ xs. xs) (now.offers k)))) in
          absurd (not_own (ap (λ l. holds l g past) same ∙ e)))
    ]

    not_held : is_held c p.granule (effects before) ≡ false
    not_held = any_none (λ k. holds k g past) (hosts_of c) nobody

    is_in_offer : is_offered c p.granule (effects before) ≡ true
    is_in_offer = any_host (λ k. list_any (λ xs. has_in_runs (map (run_of c k) xs) g) (offers_of k past)) 0 c.hosts h (omega arith) (omega (arith, host))
        (ap (list_any (λ xs. has_in_runs (map (run_of c h) xs) g)) offers
        ∙ or_left (has_in_runs (map (run_of c h) offer) g) (list_any (λ xs. has_in_runs (map (run_of c h) xs) g) later) (any-map (λ run. has_granule run g) (run_of c h) offer ∙ offer_reaches))

    fresh : (is_free (status c p.granule (effects before)) || is_offered_status (status c p.granule (effects before))) ≡ true
    fresh = rw (alone, not_held, is_in_offer) refl

    offered_zero : (w : ℕ) → word_of c before p.granule w ≡ 0
    offered_zero w = clean.zero g w sanitized (clean.untaken g sanitized fresh)

  -- ---- so of what a command accepts

  never : (new : List Effect) → list_all is_no_answer new ≡ true → list_any (accepts_byte d) new ≡ true → word_of c before p.granule p.word ≡ 0
  never new all some = absurd (false≢true (sym (none_accepted d new all) ∙ some))

  responding : (offers : List (List Extent)) → offers_of h (effects before) ≡ offers → (all : List Extent)
      → response_list_rule (with_blocks c (view_of c h before).block) h (length (view_of c h before).accepted) offers all ≡ None
      → list_any (accepts_byte d) (answered c h offers all) ≡ true → word_of c before p.granule p.word ≡ 0
  responding [] is all row some = absurd (false≢true some)
  responding (offer ∷ later) is all row some =
      let a = answer_of c sound now s h host offer later all row in
      let first : Bool = list_any (has_byte d) (map (marked offer) all) in
      let takes : List Effect = map (λ x. Effect.Take h (run_of c h x)) all in
      let taken : list_any (has_byte d) all ≡ true = elim (or_either first (list_any (accepts_byte d) takes) some) [
        | inl has ↦ sym (any-map (has_byte d) (marked offer) all) ∙ has
        | inr more ↦ absurd (false≢true (sym (none_accepted d takes (map_passes is_no_answer (λ x. Effect.Take h (run_of c h x)) (λ x. refl) all)) ∙ more))
      ] in
      let found = each-at (λ x. is_in offer x ≡ true) (has_byte d) all a.inside taken in
      offered_zero offer later is (any-implies (lies_in found.0) (has_byte d) offer (λ y inside. within_has d found.0 y inside found.1) found.2) p.word

  by_request : (r : HostRequest) → host_rule c h (view_of c h before) r ≡ None → list_any (accepts_byte d) (host_outcome c h (view_of c h before) r).changes ≡ true → word_of c before p.granule p.word ≡ 0
  by_request (HostRequest.GetEvents log) row some = absurd (false≢true some)
  by_request (HostRequest.GetConfiguration count first) row some = absurd (false≢true some)
  by_request (HostRequest.GetExtents count first) row some = absurd (false≢true some)
  by_request (HostRequest.ClearEvents number all handles) row some =
      never (host_outcome c h (view_of c h before) (HostRequest.ClearEvents number all handles)).changes
      (clear_passes is_no_answer (LogId.Host h) (record { cleared = λ n. refl; reset = refl }) number (view_of c h before).log all handles) some
  by_request (HostRequest.AddResponse true list) row some = never (host_outcome c h (view_of c h before) (HostRequest.AddResponse true list)).changes (hold_passes is_no_answer h (held h) HeldKind.Responses list) some
  by_request (HostRequest.AddResponse false list) row some =
      let v : View = view_of c h before in
      let all : List Extent = v.responses ++ list in
      let rules = neither (too_many_listed all) (response_list_rule (with_blocks c v.block) h (length v.accepted) v.offers all) row in
      elim (or_either (list_any (accepts_byte d) (unhold h HeldKind.Responses v.responses)) (list_any (accepts_byte d) (answered c h v.offers all))
      (sym (list_any-append (accepts_byte d) (unhold h HeldKind.Responses v.responses) (answered c h v.offers all)) ∙ some)) [
        | inl first ↦ never (unhold h HeldKind.Responses v.responses) (unhold_passes is_no_answer h (held h) HeldKind.Responses v.responses) first
        | inr next ↦ responding v.offers refl all rules.1 next
      ]
  by_request (HostRequest.GiveBack true list) row some = never (host_outcome c h (view_of c h before) (HostRequest.GiveBack true list)).changes (hold_passes is_no_answer h (held h) HeldKind.Releases list) some
  by_request (HostRequest.GiveBack false list) row some =
      let v : View = view_of c h before in
      never (host_outcome c h v (HostRequest.GiveBack false list)).changes
      (both_pass is_no_answer (unhold h HeldKind.Releases v.releases) (leaves c h (v.releases ++ list)) (unhold_passes is_no_answer h (held h) HeldKind.Releases v.releases)
      (map_passes is_no_answer (λ x. Effect.Leave h (run_of c h x)) (λ x. refl) (v.releases ++ list))) some

  refused : (opcode : ℕ) → list_any (accepts_byte d) (dropped h (view_of c h before) opcode) ≡ true → word_of c before p.granule p.word ≡ 0
  refused opcode some = never (dropped h (view_of c h before) opcode) (dropped_passes is_no_answer h (held h) (view_of c h before) opcode) some

  by_rule : (q : Request) (rule : Option Rule) (o : Outcome) → (rule ≡ None → list_any (accepts_byte d) o.changes ≡ true → word_of c before p.granule p.word ≡ 0) →
      list_any (accepts_byte d) (changes_with h (view_of c h before) q (unless rule o)) ≡ true → word_of c before p.granule p.word ≡ 0
  by_rule q None o fine some = fine refl some
  by_rule q (Some rule) o fine some = refused q.opcode some

  by_result : (q : Request) (result : Result HostRequest HostFault) → list_any (accepts_byte d) (changes_with h (view_of c h before) q (host_result c h (view_of c h before) result)) ≡ true → word_of c before p.granule p.word ≡ 0
  by_result q (Ok r) some = by_rule q (host_rule c h (view_of c h before) r) (host_outcome c h (view_of c h before) r) (by_request r) some
  by_result q (Err fault) some = refused q.opcode some

  -- The word at an address that the host's own command accepts is 0.
  pub accepted_zero : (act : Act) → list_any (accepts_byte d) (own_changes c h (view_of c h before) act) ≡ true → word_of c before p.granule p.word ≡ 0
  accepted_zero (Act.Command q) some = by_result q (host_request q.opcode q.payload) some
  accepted_zero (Act.Load e) some = absurd (false≢true some)
  accepted_zero (Act.Store e value) some = absurd (false≢true some)
  accepted_zero (Act.Scrub n) some = absurd (false≢true some)
