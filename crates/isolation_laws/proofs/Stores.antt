-- What a legal entry stores into a granule: nothing, or what a host stores that holds it.
use Rattle.std.proofs.Common.{◌≡◌, ◌⊎◌, ℕ, true, ◌&&◌, ◌==◌, List, [], ◌∷◌, inl, inr, refl, sym, ap, subst, ◌∙◌}
use Rattle.std.{proofs.lemmas.Bool.cases_Bool, proofs.lemmas.Bool.cases_eq, proofs.lemmas.Bool.eq-eqb, proofs.lemmas.Bool.ne_eqb, specs.Prelude.if◌then◌else◌, specs.declared.result.Result.Result}
use Rattle.std.specs.declared.result.Result.TheVariants.{Ok, Err}
use Rattle.dcd_base.specs.declared.{failures.AccessFault.AccessFault, ids.HostId.HostId, media.Place.Place, steps.Actor.Actor}
use Rattle.journal_core.specs.{Entries.effects, Holders.holds, declared.acts.Act.Act, declared.acts.Reply.Reply, declared.entries.Entry.Entry}
use Rattle.extent_list.specs.media_map.specs.{Places.locate, region_config.specs.Configurations.Configuration}
use Rattle.device_rules.specs.Legal.{Meets, access_at, right_answer, stored_at, word_by}
use Rattle.isolation_laws.specs.Laws.{is_in_granule, stores_in}

-- It writes no word of the granule.
pub record StoresNothing (c : Configuration) (g : ℕ) (actor : Actor) (act : Act) (reply : Reply) : Type 0 where
  pub writers : stores_in c g actor act reply ≡ []
  pub words : (w value : ℕ) → word_by c g w value actor act reply ≡ value

-- A host stores that holds it, and nothing else happens.
pub record StoresOwn (c : Configuration) (before : List Entry) (g : ℕ) (actor : Actor) (act : Act) (reply : Reply) : Type 0 where
  pub host : HostId
  pub holds_it : holds host g (effects before) ≡ true
  pub writers : stores_in c g actor act reply ≡ host ∷ []
  pub no_effects : (right_answer c before actor act).1 ≡ []

abbrev pub Stores : Configuration → List Entry → ℕ → Actor → Act → Reply → Type 0
Stores c before g actor act reply = StoresNothing c g actor act reply ⊎ StoresOwn c before g actor act reply

module _ (c : Configuration) (before : List Entry) (g : ℕ) where
  -- ---- a store of a host, by the place of its address

  module _ (h : HostId) (d new : ℕ) where
    abbrev stores_at : Result Place AccessFault → Reply → List HostId
    stores_at at Reply.Stored = if is_in_granule g at then h ∷ [] else []
    stores_at at reply = []

    abbrev word_at : ℕ → ℕ → Result Place AccessFault → Reply → ℕ
    word_at w value at Reply.Stored = stored_at g w value at new
    word_at w value at reply = value

    same_stores : (reply : Reply) → stores_in c g (Actor.Host h) (Act.Store d new) reply ≡ stores_at (locate c h d) reply
    same_stores Reply.Stored = refl
    same_stores reply = refl

    same_word : (w value : ℕ) (reply : Reply) → word_by c g w value (Actor.Host h) (Act.Store d new) reply ≡ word_at w value (locate c h d) reply
    same_word w value Reply.Stored = refl
    same_word w value reply = refl

    abbrev StoresAt : Result Place AccessFault → Reply → Type 0
    StoresAt at reply = ((stores_at at reply ≡ []) × ((w value : ℕ) → word_at w value at reply ≡ value)) ⊎ ((holds h g (effects before) ≡ true) × (stores_at at reply ≡ h ∷ []))

    -- where the host holds the place
    granted : (p : Place) → holds h p.granule (effects before) ≡ true → StoresAt (Ok p) Reply.Stored
    granted p held = elim (cases_eq p.granule g) [
      | inl same ↦ inr (subst (λ m. holds h m (effects before) ≡ true) same held, ap (λ b. if b then h ∷ [] else []) (eq-eqb p.granule g same))
      | inr other ↦ inl (ap (λ b. if b then h ∷ [] else []) (ne_eqb p.granule g other), λ w value. ap (λ b. if b && (p.word == w) then new else value) (ne_eqb p.granule g other))
    ]

    at_place : (at : Result Place AccessFault) → StoresAt at (access_at c before h (Act.Store d new) at)
    at_place (Err fault) = inl (refl, λ w value. refl)
    at_place (Ok p) = elim (cases_Bool (holds h p.granule (effects before))) [
      | inl held ↦ subst (StoresAt (Ok p)) (sym (ap (λ b. if b then Reply.Stored else Reply.Refused AccessFault.NotGranted) held)) (granted p held)
      | inr free ↦ subst (StoresAt (Ok p)) (sym (ap (λ b. if b then Reply.Stored else Reply.Refused AccessFault.NotGranted) free)) (inl (refl, λ w value. refl))
    ]

    by_store : Stores c before g (Actor.Host h) (Act.Store d new) (access_at c before h (Act.Store d new) (locate c h d))
    by_store =
        let reply : Reply = access_at c before h (Act.Store d new) (locate c h d) in
        elim (at_place (locate c h d)) [
          | inl nothing ↦ inl (record { writers = same_stores reply ∙ nothing.0; words = λ w value. same_word w value reply ∙ nothing.1 w value })
          | inr own ↦ inr (record { host = h; holds_it = own.0; writers = same_stores reply ∙ own.1; no_effects = refl })
        ]

  -- ---- every act

  by_act : (actor : Actor) (act : Act) → Stores c before g actor act (right_answer c before actor act).0
  by_act (Actor.Host h) (Act.Store d new) = by_store h d new
  by_act (Actor.Host h) (Act.Load d) = inl (record { writers = refl; words = λ w value. refl })
  by_act (Actor.Host h) (Act.Command q) = inl (record { writers = refl; words = λ w value. refl })
  by_act (Actor.Host h) (Act.Scrub n) = inl (record { writers = refl; words = λ w value. refl })
  by_act Actor.Manager act = inl (record { writers = refl; words = λ w value. refl })
  by_act Actor.Sanitizer act = inl (record { writers = refl; words = λ w value. refl })

  pub entry_stores : (e : Entry) → Meets c before e → Stores c before g e.actor e.act e.reply
  entry_stores e meets = subst (Stores c before g e.actor e.act) (sym meets.reply) (by_act e.actor e.act)
