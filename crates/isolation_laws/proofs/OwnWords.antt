-- Where a host holds a granule of a region that is sanitized and not shared, its words are those that it has alone.
use Rattle.std.proofs.Common.{◌≡◌, ℕ, ◌+◌, ◌-◌, ◌*◌, ◌<◌, Bool, true, false, ◌&&◌, List, [], ◌∷◌, ◌++◌, Result, Ok, Err, inl, inr, refl, sym, ap, ◌∙◌}
use Rattle.std.proofs.lemmas.{Bool.and_parts, Bool.cases_Bool, Bool.eq-eqb, Bool.eqb-false, Bool.eqb-true, Bool.false≢true, List.Sums.fold-append, List.Sums.fold_push}
use Rattle.std.specs.{List.list_all, List.list_any, Prelude.fold, Prelude.◌==◌, Prelude.if◌then◌else◌, Result.is_ok}
use Rattle.dcd_base.specs.declared.{failures.AccessFault.AccessFault, ids.HostId.HostId, media.Place.Place, steps.Actor.Actor}
use Rattle.journal_core.{specs.Entries.effects, specs.Holders.holds, specs.declared.acts.Act.Act, specs.declared.acts.Reply.Reply, specs.declared.entries.Entry.Entry, proofs.EachSteps.Each-push}
use Rattle.extent_list.specs.media_map.{proofs.PlaceLemmas.address_back, specs.Places.IsPlace, specs.Places.address_of, specs.Places.locate, specs.region_config.specs.Configurations.Configuration}
use Rattle.extent_list.specs.media_map.specs.region_config.specs.{Granules.base_of, Granules.first_granule, Granules.granule_size, Granules.region_of, Granules.region_spec, Soundness.IsSound}
use Rattle.device_rules.{proofs.ExclusiveHolding.sound_apart, proofs.LegalSound.legal_is_sound, specs.Views.View, specs.Views.first_view, specs.Views.view_of, proofs.LegalSteps.by_steps}
use Rattle.device_rules.specs.Legal.{Legal, Meets, access_at, access_reply, is_zeroing, right_answer, stored_at, word_after, word_by, word_of, written_by}
use Rattle.isolation_laws.proofs.{AcceptedBytes.brought_has, AcceptedBytes.changes_have, AllSee.all_see_alone, BroughtItems.actor_is, BroughtItems.all_brought, BroughtItems.is_brought}
use Rattle.isolation_laws.proofs.{GrantedPlaces.held_has, GrantedPlaces.place_of, GrantedPlaces.region_of_place, OfferedWords.accepted_zero, OwnItems.own_items-push, OwnItems.solo_view-push}
use Rattle.isolation_laws.{proofs.ZeroSteps.host_zeroes, proofs.ZeroSteps.no_zero-left, proofs.ZeroSteps.none_zeroed, specs.Laws.Clean, specs.declared.items.Item.Item}
use Rattle.isolation_laws.specs.Solo.{accepts_byte, delivered, has_byte, acts_for, items_of, own_changes, own_items, solo_after, solo_view, solo_word, solo_word_after}

-- ---- the word that a host has alone, item by item

module _ (c : Configuration) (h : HostId) (d : ℕ) where
  abbrev solo_step : View × ℕ → Item → View × ℕ
  solo_step s item = (solo_after c h s.0 item, solo_word_after c h d s.0 s.1 item)

  step_view : (s : View × ℕ) (items : List Item) → (fold solo_step s items).0 ≡ fold (solo_after c h) s.0 items
  step_view s [] = refl
  step_view s (item ∷ items) = step_view (solo_step s item) items

  solo_word-append : (xs ys : List Item) → solo_word c h d (xs ++ ys) ≡ (fold solo_step (solo_view c h xs, solo_word c h d xs) ys).1
  solo_word-append xs ys =
      ap (λ s. s.1) (fold-append solo_step (first_view c, 0) xs ys)
      ∙ (λ i. (fold solo_step (step_view (first_view c, 0) xs i, solo_word c h d xs) ys).1)

  -- what others bring leaves it
  brought_word : (s : View × ℕ) (items : List Item) → list_all is_brought items ≡ true → (fold solo_step s items).1 ≡ s.1
  brought_word s [] all = refl
  brought_word s (Item.Own act ∷ items) all = absurd (false≢true all)
  brought_word s (item ∷ items) all = brought_word (solo_step s item) items all

-- ---- stores

module _ (c : Configuration) (before : List Entry) (g w n : ℕ) where
  -- a store of a host that does not write the word leaves it
  store_leaves : (k : HostId) (e value : ℕ) → ((q : Place) → locate c k e ≡ Ok q → holds k q.granule (effects before) ≡ true → ((q.granule == g) && (q.word == w)) ≡ false) →
      written_by c k g w n (Act.Store e value) (access_reply c before k (Act.Store e value) e) ≡ n
  store_leaves k e value misses = by (locate c k e) refl
    where
      at_place : (q : Place) → locate c k e ≡ Ok q → (b : Bool) → holds k q.granule (effects before) ≡ b →
          written_by c k g w n (Act.Store e value) (if b then Reply.Stored else Reply.Refused AccessFault.NotGranted) ≡ n
      at_place q at false is = refl
      at_place q at true is = ap (λ found. stored_at g w n found value) at ∙ ap (λ b. if b then value else n) (misses q at is)

      by : (found : Result Place AccessFault) → locate c k e ≡ found → written_by c k g w n (Act.Store e value) (access_at c before k (Act.Store e value) found) ≡ n
      by (Err fault) at = refl
      by (Ok q) at = at_place q at (holds k q.granule (effects before)) refl

  -- and one that does writes it
  store_writes : (h : HostId) (d value : ℕ) (p : Place) → p.granule ≡ g → p.word ≡ w → locate c h d ≡ Ok p → holds h p.granule (effects before) ≡ true →
      written_by c h g w n (Act.Store d value) (access_reply c before h (Act.Store d value) d) ≡ value
  store_writes h d value p granule word at is =
      ap (λ found. written_by c h g w n (Act.Store d value) (access_at c before h (Act.Store d value) found)) at
      ∙ ap (λ b. written_by c h g w n (Act.Store d value) (if b then Reply.Stored else Reply.Refused AccessFault.NotGranted)) is
      ∙ ap (λ found. stored_at g w n found value) at
      ∙ (λ i. if eq-eqb p.granule g granule i && eq-eqb p.word w word i then value else n)

-- ---- over a legal journal

module _ (c : Configuration) (sound : IsSound c) (cleaned : (journal : List Entry) → Legal c journal → Clean c journal) (h : HostId) (host : h < c.hosts)
    (d : ℕ) (p : Place) (at : locate c h d ≡ Ok p) (private : (region_spec c p.region).shareable ≡ false) (zeroed : (region_spec c p.region).sanitize ≡ true) where
  place : IsPlace c h d p
  place = place_of c h d p at

  of_region : region_of c p.granule ≡ p.region
  of_region = region_of_place c sound h host d p place

  alone_in : (region_spec c (region_of c p.granule)).shareable ≡ false
  alone_in = ap (λ r. (region_spec c r).shareable) of_region ∙ private

  -- another address is another word
  other_word : (e : ℕ) (q : Place) → (e == d) ≡ false → locate c h e ≡ Ok q → ((q.granule == p.granule) && (q.word == p.word)) ≡ false
  other_word e q other there = elim (cases_Bool ((q.granule == p.granule) && (q.word == p.word))) [
    | inr misses ↦ misses
    | inl hits ↦ (let parts = and_parts (q.granule == p.granule) (q.word == p.word) hits in
        let granule : q.granule ≡ p.granule = eqb-true q.granule p.granule parts.0 in
        let word : q.word ≡ p.word = eqb-true q.word p.word parts.1 in
        let q_place : IsPlace c h e q = place_of c h e q there in
        let region : q.region ≡ p.region = sym (region_of_place c sound h host e q q_place) ∙ ap (region_of c) granule ∙ of_region in
        let same : address_of c h q ≡ address_of c h p = λ i. base_of c h (region i) + (granule i - first_granule c (region i)) * granule_size c (region i) + 8 * word i in
        absurd (eqb-false e d other (sym (address_back c h sound host e q q_place) ∙ same ∙ address_back c h sound host d p place)))
  ]

  -- The word is the one that the host has alone, while it holds the granule.
  abbrev Same : List Entry → Type 0
  Same journal = holds h p.granule (effects journal) ≡ true → word_of c journal p.granule p.word ≡ solo_word c h d (own_items h journal)

  held_by_view : (journal : List Entry) → Legal c journal → holds h p.granule (effects journal) ≡ list_any (has_byte d) (view_of c h journal).accepted
  held_by_view journal legal = held_has c sound h host d p place (effects journal) (legal_is_sound c sound journal legal).stands

  module _ (before : List Entry) (legal : Legal c before) (same : Same before) where
    abbrev items : List Item
    items = own_items h before

    abbrev v : View
    v = solo_view c h (own_items h before)

    abbrev n : ℕ
    n = solo_word c h d (own_items h before)

    abbrev value : ℕ
    value = word_of c before p.granule p.word

    alone : view_of c h before ≡ solo_view c h (own_items h before)
    alone = all_see_alone c sound before legal h host

    had : list_any (has_byte d) (solo_view c h (own_items h before)).accepted ≡ true → holds h p.granule (effects before) ≡ true
    had some = held_by_view before legal ∙ ap (λ u. list_any (has_byte d) u.accepted) alone ∙ some

    -- ---- a step of another

    others_write : (k : HostId) (act : Act) → (k == h) ≡ false → holds h p.granule (effects before) ≡ true →
        written_by c k p.granule p.word (word_of c before p.granule p.word) act (right_answer c before (Actor.Host k) act).0 ≡ word_of c before p.granule p.word
    others_write k (Act.Command q) other held = refl
    others_write k (Act.Load e) other held = refl
    others_write k (Act.Scrub m) other held = refl
    others_write k (Act.Store e new) other held = store_leaves c before p.granule p.word value k e new (λ q there theirs. elim (cases_Bool ((q.granule == p.granule) && (q.word == p.word))) [
      | inr misses ↦ misses
      | inl hits ↦ (let granule : q.granule ≡ p.granule = eqb-true q.granule p.granule (and_parts (q.granule == p.granule) (q.word == p.word) hits).0 in
          absurd (eqb-false k h other ((sound_apart c sound (effects before) (legal_is_sound c sound before legal)).alone p.granule k h alone_in (ap (λ g. holds k g (effects before)) (sym granule) ∙ theirs) held)))
    ])

    others_leave : (actor : Actor) (act : Act) → acts_for h actor ≡ false → holds h p.granule (effects before) ≡ true →
        word_by c p.granule p.word (word_of c before p.granule p.word) actor act (right_answer c before actor act).0 ≡ word_of c before p.granule p.word
    others_leave (Actor.Host k) act other held = others_write k act other held
    others_leave Actor.Manager act other held = refl
    others_leave Actor.Sanitizer act other held = refl

    -- ---- a step of its own

    own_write : (act : Act) → list_any (has_byte d) (solo_after c h (solo_view c h (own_items h before)) (Item.Own act)).accepted ≡ true →
        written_by c h p.granule p.word (word_of c before p.granule p.word) act (right_answer c before (Actor.Host h) act).0
        ≡ solo_word_after c h d (solo_view c h (own_items h before)) (solo_word c h d (own_items h before)) (Item.Own act)
    own_write (Act.Load e) has = same (had has)
    own_write (Act.Scrub m) has = same (had has)
    own_write (Act.Command q) has = elim (cases_Bool (list_any (accepts_byte d) (own_changes c h v (Act.Command q)))) [
      | inl accepts ↦ accepted_zero c sound before legal (cleaned before legal) h host d p place private zeroed (Act.Command q) (ap (λ u. list_any (accepts_byte d) (own_changes c h u (Act.Command q))) alone ∙ accepts)
          ∙ sym (ap (λ b. if b then 0 else n) accepts)
      | inr none ↦ elim (changes_have d c h v.accepted (own_changes c h v (Act.Command q)) has) [
        | inl was ↦ same (had was) ∙ sym (ap (λ b. if b then 0 else n) none)
        | inr now ↦ absurd (false≢true (sym none ∙ now))
      ]
    ]
    own_write (Act.Store e new) has = elim (cases_Bool (e == d)) [
      | inl here ↦ (let is : e ≡ d = eqb-true e d here in
          ap (λ a. written_by c h p.granule p.word value (Act.Store a new) (access_reply c before h (Act.Store a new) a)) is
          ∙ store_writes c before p.granule p.word value h d new p refl refl at (had has)
          ∙ sym (λ i. if here i && (is_ok (at i) && has i) then new else n))
      | inr other ↦ store_leaves c before p.granule p.word value h e new (λ q there held. other_word e q other there)
          ∙ same (had has)
          ∙ sym (ap (λ b. if b && (is_ok (locate c h d) && list_any (has_byte d) v.accepted) then new else n) other)
    ]

    -- ---- so after one more entry

    module _ (e : Entry) (meets : Meets c before e) (held_now : holds h p.granule (effects (before ++ e ∷ [])) ≡ true) where
      word_now : word_of c (before ++ e ∷ []) p.granule p.word
          ≡ (if list_any (is_zeroing p.granule) (right_answer c before e.actor e.act).1 then 0
          else word_by c p.granule p.word (word_of c before p.granule p.word) e.actor e.act (right_answer c before e.actor e.act).0)
      word_now = fold_push (word_after c p.granule p.word) 0 before e
          ∙ (λ i. if list_any (is_zeroing p.granule) (meets.effects i) then 0 else word_by c p.granule p.word value e.actor e.act (meets.reply i))

      solo_now : solo_word c h d (own_items h (before ++ e ∷ [])) ≡ (fold (solo_step c h d) (solo_view c h (own_items h before), solo_word c h d (own_items h before)) (items_of h e)).1
      solo_now = ap (solo_word c h d) (own_items-push h before e) ∙ solo_word-append c h d items (items_of h e)

      has_now : list_any (has_byte d) (fold (solo_after c h) (solo_view c h (own_items h before)) (items_of h e)).accepted ≡ true
      has_now =
          let longer : Legal c (before ++ e ∷ []) = Each-push (Meets c) before e legal meets in
          sym (held_by_view (before ++ e ∷ []) longer ∙ ap (λ u. list_any (has_byte d) u.accepted) (all_see_alone c sound (before ++ e ∷ []) longer h host ∙ solo_view-push c h before e))
          ∙ held_now

      of_another : acts_for h e.actor ≡ false → word_of c (before ++ e ∷ []) p.granule p.word ≡ solo_word c h d (own_items h (before ++ e ∷ []))
      of_another other =
          let brought : items_of h e ≡ delivered h e.effects = ap (λ b. if b then Item.Own e.act ∷ [] else delivered h e.effects) other in
          let held : holds h p.granule (effects before) ≡ true =
          had (brought_has d c h v (delivered h e.effects) (all_brought h e.effects) (ap (λ new. list_any (has_byte d) (fold (solo_after c h) v new).accepted) (sym brought) ∙ has_now)) in
          word_now
          ∙ (λ i. if none_zeroed c before p.granule h host alone_in held e.actor e.act i then 0 else word_by c p.granule p.word value e.actor e.act (right_answer c before e.actor e.act).0)
          ∙ others_leave e.actor e.act other held
          ∙ same held
          ∙ sym (solo_now ∙ ap (λ new. (fold (solo_step c h d) (v, n) new).1) brought ∙ brought_word c h d (v, n) (delivered h e.effects) (all_brought h e.effects))

      of_its_own : acts_for h e.actor ≡ true → word_of c (before ++ e ∷ []) p.granule p.word ≡ solo_word c h d (own_items h (before ++ e ∷ []))
      of_its_own own =
          let mine : items_of h e ≡ Item.Own e.act ∷ [] = ap (λ b. if b then Item.Own e.act ∷ [] else delivered h e.effects) own in
          word_now
          ∙ ap (λ actor. if list_any (is_zeroing p.granule) (right_answer c before actor e.act).1 then 0 else word_by c p.granule p.word value actor e.act (right_answer c before actor e.act).0) (actor_is h e.actor own)
          ∙ (λ i. if no_zero-left p.granule (right_answer c before (Actor.Host h) e.act).1 (host_zeroes c before h e.act) i then 0 else written_by c h p.granule p.word value e.act (right_answer c before (Actor.Host h) e.act).0)
          ∙ own_write e.act (ap (λ new. list_any (has_byte d) (fold (solo_after c h) v new).accepted) (sym mine) ∙ has_now)
          ∙ sym (solo_now ∙ ap (λ new. (fold (solo_step c h d) (v, n) new).1) mine)

      same_now : word_of c (before ++ e ∷ []) p.granule p.word ≡ solo_word c h d (own_items h (before ++ e ∷ []))
      same_now = elim (cases_Bool (acts_for h e.actor)) [
        | inl own ↦ of_its_own own
        | inr other ↦ of_another other
      ]

  pub own_words : (journal : List Entry) → Legal c journal → holds h p.granule (effects journal) ≡ true → word_of c journal p.granule p.word ≡ solo_word c h d (own_items h journal)
  own_words = by_steps c Same (λ held. absurd (false≢true held)) (λ before e legal same meets held. same_now before legal same e meets held)
