-- After every legal journal each granule is clean.
use Rattle.std.proofs.Common.{◌≡◌, ℕ, Bool, true, false, ◌&&◌, ◌||◌, not, ◌==◌, List, [], ◌∷◌, ◌++◌, inl, inr, refl, sym, ap, subst, ◌∙◌}
use Rattle.std.proofs.lemmas.{Bool.cases_Bool, Bool.eq-eqb, Bool.false≢true, Bool.or_cases, Bool.or_parts, List.Folds.list_all-append, List.Sums.fold_push}
use Rattle.std.specs.{List.list_all, List.list_any, Prelude.fold, Prelude.if◌then◌else◌, Prelude.IsTrue}
use Rattle.dcd_base.specs.{Words.has_granule, declared.ids.HostId.HostId}
use Rattle.journal_core.{proofs.HoldingSteps.holds-append, proofs.HoldingSteps.is_taken-append, proofs.JournalSteps.effects-push, specs.Entries.effects}
use Rattle.journal_core.specs.{Holders.holding_after, Holders.holds, Holders.is_soiled, Holders.is_taken, Holders.taking_after, declared.entries.Entry.Entry, declared.outcome.Effect.Effect}
use Rattle.extent_list.specs.media_map.specs.region_config.specs.{Configurations.Configuration, Granules.hosts_of, Granules.region_of, Granules.region_spec, Soundness.IsSound}
use Rattle.device_rules.proofs.{ExclusiveHolding.legal_holdings, HoldersApart.alone_holds, LegalSound.legal_is_sound, LegalSteps.by_steps, ListSteps.each-all, ListSteps.each-at}
use Rattle.device_rules.specs.{GranuleStates.is_granule_offered, Invariants.Holdings, Legal.Legal, Legal.Meets, Legal.is_zeroing, Legal.word_after, Legal.word_by, Legal.word_of, Pictures.picture_of}
use Rattle.device_rules.specs.Standing.{Sound}
use Rattle.device_rules.specs.Tags.{Dirty, Free, Held, Offered, Tagged, is_free, is_held, is_offered, is_tagged, status}
use Rattle.isolation_laws.proofs.{CleanCommands.step_keeps, CleanSteps.HeldTaken, CleanSteps.IsSwept, CleanSteps.KeepsClean, CleanSteps.OfferedUntaken, OfferedFree.free_untaken}
use Rattle.isolation_laws.proofs.{Stores.Stores, Stores.entry_stores, WritersOver.IsOwn, WritersOver.nobody, WritersOver.untaken_over}
use Rattle.isolation_laws.specs.Laws.{Clean, Writers, is_offered_status, stores_in, writers_after, writers_by, writers_of}

-- What is carried over the journal: of each granule, whether it was taken, and who has stored into it.
record StaysClean (c : Configuration) (journal : List Entry) : Type 0 where
  held : (g : ℕ) → HeldTaken g (effects journal)
  offered : (g : ℕ) → IsSwept c g → OfferedUntaken c g (effects journal)
  untaken : (g : ℕ) → is_taken g (effects journal) ≡ false → writers_of c journal g ≡ nobody
  own : (g : ℕ) → IsSwept c g → (h : HostId) → holds h g (effects journal) ≡ true → IsOwn h (writers_of c journal g)
  zero : (g w : ℕ) → is_taken g (effects journal) ≡ false → word_of c journal g w ≡ 0

-- what is not taken and was not zeroed was not taken before
untaken_step : (g : ℕ) (taken : Bool) (e : Effect) → is_zeroing g e ≡ false → taking_after g taken e ≡ false → taken ≡ false
untaken_step g taken (Effect.Take h run) kept untaken = by (has_granule run g) untaken
  where
    by : (has : Bool) → (if has then true else taken) ≡ false → taken ≡ false
    by true untaken = absurd (false≢true (sym untaken))
    by false untaken = untaken
untaken_step g taken (Effect.Zero run) kept untaken = by (has_granule run g) kept untaken
  where
    by : (has : Bool) → has ≡ false → (if has then false else taken) ≡ false → taken ≡ false
    by true kept untaken = absurd (false≢true (sym kept))
    by false kept untaken = untaken
untaken_step g taken e kept untaken = untaken

untaken_before : (g : ℕ) (taken : Bool) (new : List Effect) → list_any (is_zeroing g) new ≡ false → fold (taking_after g) taken new ≡ false → taken ≡ false
untaken_before g taken [] kept untaken = untaken
untaken_before g taken (e ∷ new) kept untaken =
    let parts = or_parts (is_zeroing g e) (list_any (is_zeroing g) new) kept in
    untaken_step g taken e parts.0 (untaken_before g (taking_after g taken e) new parts.1 untaken)

-- ---- one more entry

module _ (c : Configuration) (sound : IsSound c) (before : List Entry) (legal : Legal c before) (clean : StaysClean c before) (e : Entry) (meets : Meets c before e) where
  kept : Holdings c before
  kept = legal_holdings c sound before legal

  now : Sound c (picture_of c (effects before))
  now = legal_is_sound c sound before legal

  keeps : (g : ℕ) → KeepsClean c g (effects before) e.effects
  keeps g = step_keeps c sound before now kept g e meets

  effects_are : effects (before ++ e ∷ []) ≡ effects before ++ e.effects
  effects_are = effects-push before e

  module _ (g : ℕ) where
    stores : Stores c before g e.actor e.act e.reply
    stores = entry_stores c before g e meets

    abbrev then_by_effects : Writers
    then_by_effects = fold (writers_by g) (writers_of c before g) e.effects

    writers_then : writers_of c (before ++ e ∷ []) g ≡ writers_after c g (writers_of c before g) e
    writers_then = fold_push (writers_after c g) nobody before e

    -- ---- where it is not taken

    module _ (untaken : is_taken g (effects (before ++ e ∷ [])) ≡ false) where
      untaken_over_it : fold (taking_after g) (is_taken g (effects before)) e.effects ≡ false
      untaken_over_it = sym (is_taken-append g (effects before) e.effects) ∙ sym (ap (is_taken g) effects_are) ∙ untaken

      no_stores : stores_in c g e.actor e.act e.reply ≡ []
      no_stores = elim stores [
        | inl nothing ↦ nothing.writers
        | inr it ↦ (let no_effects : e.effects ≡ [] = meets.effects ∙ it.no_effects in
            absurd (false≢true (sym untaken_over_it ∙ ap (fold (taking_after g) (is_taken g (effects before))) no_effects ∙ clean.held g it.host it.holds_it)))
      ]

      by_nobody : fold (writers_by g) (writers_of c before g) e.effects ≡ nobody
      by_nobody = untaken_over g (is_taken g (effects before)) (writers_of c before g) e.effects (clean.untaken g) untaken_over_it

      no_writers : writers_of c (before ++ e ∷ []) g ≡ nobody
      no_writers = writers_then ∙ (λ i. record { before = (by_nobody i).before; since = (by_nobody i).since ++ no_stores i })

      no_words : (w : ℕ) → word_of c (before ++ e ∷ []) g w ≡ 0
      no_words w = fold_push (word_after c g w) 0 before e ∙ elim (cases_Bool (list_any (is_zeroing g) e.effects)) [
        | inl zeroed ↦ ap (λ b. if b then 0 else word_by c g w (word_of c before g w) e.actor e.act e.reply) zeroed
        | inr kept_on ↦ ap (λ b. if b then 0 else word_by c g w (word_of c before g w) e.actor e.act e.reply) kept_on ∙ unwritten w (untaken_before g (is_taken g (effects before)) e.effects kept_on untaken_over_it)
      ]
        where
          unwritten : (w : ℕ) → is_taken g (effects before) ≡ false → word_by c g w (word_of c before g w) e.actor e.act e.reply ≡ 0
          unwritten w free = elim stores [
            | inl nothing ↦ nothing.words w (word_of c before g w) ∙ clean.zero g w free
            | inr it ↦ absurd (false≢true (sym free ∙ clean.held g it.host it.holds_it))
          ]

    -- ---- where one host holds it

    module _ (swept : IsSwept c g) (h : HostId) (held : holds h g (effects (before ++ e ∷ [])) ≡ true) where
      own_by_effects : IsOwn h (fold (writers_by g) (writers_of c before g) e.effects)
      own_by_effects = (keeps g).own swept (clean.offered g swept) (writers_of c before g) (record { untaken = clean.untaken g; held = clean.own g swept }) h (sym (ap (holds h g) effects_are) ∙ held)

      -- who stores is the one that holds it
      own_stores : IsTrue (list_all (λ k. k == h) (stores_in c g e.actor e.act e.reply))
      own_stores = elim stores [
        | inl nothing ↦ ap (list_all (λ k. k == h)) nothing.writers
        | inr it ↦ (let no_effects : e.effects ≡ [] = meets.effects ∙ it.no_effects in
            let before_it : holds h g (effects before) ≡ true = sym (ap (fold (holding_after h g) (holds h g (effects before))) no_effects) ∙ sym (holds-append h g (effects before) e.effects) ∙ sym (ap (holds h g) effects_are) ∙ held in
            let same : it.host ≡ h = alone_holds c before kept g it.host h swept.private it.holds_it before_it in
            ap (list_all (λ k. k == h)) it.writers ∙ ap (λ b. b && true) (eq-eqb it.host h same))
      ]

      own_writers : IsOwn h (writers_of c (before ++ e ∷ []) g)
      own_writers = subst (IsOwn h) (sym writers_then) (own_by_effects.0, list_all-append (λ k. k == h) then_by_effects.since (stores_in c g e.actor e.act e.reply) ∙ (λ i. own_by_effects.1 i && own_stores i))

  one_more : StaysClean c (before ++ e ∷ [])
  one_more = record {
    held = λ g. subst (HeldTaken g) (sym effects_are) ((keeps g).held (clean.held g));
    offered = λ g swept. subst (OfferedUntaken c g) (sym effects_are) ((keeps g).offered swept (clean.offered g swept));
    untaken = no_writers;
    own = own_writers;
    zero = λ g w untaken. no_words g untaken w;
  }

stays_clean : (c : Configuration) → IsSound c → (journal : List Entry) → Legal c journal → StaysClean c journal
stays_clean c sound = by_steps c (StaysClean c) (record {
  held = λ g h held. absurd (false≢true held);
  offered = λ g swept h offered. absurd (false≢true offered);
  untaken = λ g untaken. refl;
  own = λ g swept h held. absurd (false≢true held);
  zero = λ g w untaken. refl;
}) (λ before e legal clean meets. one_more c sound before legal clean e meets)

-- ---- what it says of a status

offered_cond : (shareable held offered tagged dirty : Bool) →
    is_offered_status (if not shareable && held then Held else if not shareable && offered then Offered else if tagged then Tagged else if dirty then Dirty else Free) ≡ true → (shareable ≡ false) × (offered ≡ true)
offered_cond true held offered true dirty is = absurd (false≢true is)
offered_cond true held offered false true is = absurd (false≢true is)
offered_cond true held offered false false is = absurd (false≢true is)
offered_cond false true offered tagged dirty is = absurd (false≢true is)
offered_cond false false true tagged dirty is = (refl, refl)
offered_cond false false false true dirty is = absurd (false≢true is)
offered_cond false false false false true is = absurd (false≢true is)
offered_cond false false false false false is = absurd (false≢true is)

pub legal_clean : (c : Configuration) → IsSound c → (journal : List Entry) → Legal c journal → Clean c journal
legal_clean c sound journal legal = record {
  zero = λ g w sanitize untaken. clean.zero g w untaken;
  untaken = λ g sanitize is. elim (or_cases (is_free (status c g past)) (is_offered_status (status c g past)) is) [
    | inl free ↦ free_untaken c g past sanitize free
    | inr offered ↦ (let parts = offered_cond (region_spec c (region_of c g)).shareable (is_held c g past) (is_offered c g past) (is_tagged c g past)
        (((region_spec c (region_of c g)).sanitize && is_taken g past) || is_soiled g past) offered in
        let found = each-at (λ h. Unit {0}) (λ h. is_granule_offered c h g past) (hosts_of c) (each-all (λ h. Unit {0}) (λ h. tt) (hosts_of c)) parts.1 in
        clean.offered g (record { sanitize = sanitize; private = parts.0 }) found.0 found.1)
  ];
  own = λ g h sanitize private held. clean.own g (record { sanitize = sanitize; private = private }) h held;
}
  where
    past : List Effect
    past = effects journal

    clean : StaysClean c journal
    clean = stays_clean c sound journal legal
