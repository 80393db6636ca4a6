-- After every legal journal each host of the device sees what it would see alone.
use Rattle.std.proofs.Common.{◌<◌, ◌≢◌, List, [], ◌∷◌, inl, inr, refl, sym, subst}
use Rattle.std.{specs.Prelude.if◌then◌else◌, proofs.lemmas.Bool.cases_eq, proofs.lemmas.Bool.eq-eqb, proofs.lemmas.Bool.ne_eqb}
use Rattle.dcd_base.specs.declared.{ids.HostId.HostId, steps.Actor.Actor, steps.LogId.LogId}
use Rattle.fm_payloads.specs.ManagerPayloads.{manager_request}
use Rattle.journal_core.specs.{Entries.effects, declared.acts.Act.Act, declared.entries.Entry.Entry, declared.outcome.Effect.Effect}
use Rattle.extent_list.specs.media_map.specs.region_config.specs.{Configurations.Configuration, Soundness.IsSound}
use Rattle.device_rules.proofs.{EffectKinds.zeroes_pass, LegalLogs.legal_logs, LegalSound.legal_is_sound, LegalSteps.by_steps, LogSteps.IsSound as IsSoundLog, ViewOthers.answer-leaves}
use Rattle.device_rules.{proofs.ViewsLeft.leaves_view, specs.Answers.scrubbed, specs.Answers.zeroes, specs.Legal.Legal, specs.Legal.Meets, specs.Legal.right_answer, specs.Logs.log_of}
use Rattle.device_rules.specs.{Pictures.picture_of, Standing.Sound, Views.View, Views.view_of}
use Rattle.isolation_laws.proofs.{ManagerSteps.manager_brings, OneItem.BringsItems, OtherSteps.brings_nothing, OwnItems.StepsAlone, OwnItems.stays_alone, OwnSteps.own_step}
use Rattle.isolation_laws.specs.{Laws.AllSeeAlone, Solo.delivered, Solo.acts_for, declared.items.Item.Item}

-- the items of a step of this actor, with these effects
abbrev items_by : HostId → Actor → Act → List Effect → List Item
items_by h actor act new = if acts_for h actor then Item.Own act ∷ [] else delivered h new

module _ (c : Configuration) (sound : IsSound c) (before : List Entry) (now : Sound c (picture_of c (effects before))) (h : HostId) (known : h < c.hosts)
    (history : IsSoundLog (log_of (LogId.Host h) (effects before))) where
  abbrev v : View
  v = view_of c h before

  -- The right answer to the act steps the view as its items do.
  abbrev Answers : Actor → Act → Type 0
  Answers actor act = BringsItems c h (view_of c h before) (right_answer c before actor act).1 (items_by h actor act (right_answer c before actor act).1)

  own_answers : (act : Act) → Answers (Actor.Host h) act
  own_answers act =
      subst (λ b. BringsItems c h (view_of c h before) (right_answer c before (Actor.Host h) act).1 (if b then Item.Own act ∷ [] else delivered h (right_answer c before (Actor.Host h) act).1)) (sym (eq-eqb h h refl))
      (record { alone = own_step c h before act; few = λ beyond. beyond })

  other_answers : (k : HostId) → k ≢ h → (act : Act) → Answers (Actor.Host k) act
  other_answers k other act =
      let new : List Effect = (right_answer c before (Actor.Host k) act).1 in
      subst (λ b. BringsItems c h (view_of c h before) new (if b then Item.Own act ∷ [] else delivered h new)) (sym (ne_eqb k h other))
      (brings_nothing c h v new (answer-leaves c before k h other act))

  answers : (actor : Actor) (act : Act) → Answers actor act
  answers (Actor.Host k) act = elim (cases_eq k h) [
    | inl same ↦ subst (λ k. Answers (Actor.Host k) act) (sym same) (own_answers act)
    | inr other ↦ other_answers k other act
  ]
  answers Actor.Manager (Act.Command q) = manager_brings c sound before now h known history (manager_request q.opcode q.payload)
  answers Actor.Manager (Act.Load d) = record { alone = refl; few = tt }
  answers Actor.Manager (Act.Store d value) = record { alone = refl; few = tt }
  answers Actor.Manager (Act.Scrub n) = record { alone = refl; few = tt }
  answers Actor.Sanitizer (Act.Command q) = record { alone = refl; few = tt }
  answers Actor.Sanitizer (Act.Load d) = record { alone = refl; few = tt }
  answers Actor.Sanitizer (Act.Store d value) = record { alone = refl; few = tt }
  answers Actor.Sanitizer (Act.Scrub n) = brings_nothing c h v (zeroes c (scrubbed c (effects before) n)) (zeroes_pass (leaves_view h) (λ run. refl) c (scrubbed c (effects before) n))

  -- so each entry that meets what is asked does
  pub steps_alone : (e : Entry) → Meets c before e → StepsAlone c h before e
  steps_alone e meets = subst (λ new. BringsItems c h (view_of c h before) new (items_by h e.actor e.act new)) (sym meets.effects) (answers e.actor e.act)

-- After every legal journal.
pub all_see_alone : (c : Configuration) → IsSound c → (journal : List Entry) → Legal c journal → AllSeeAlone c journal
all_see_alone c sound = by_steps c (AllSeeAlone c) (λ h known. refl)
    (λ before e legal alone meets h known.
    stays_alone c h before e
    (steps_alone c sound before (legal_is_sound c sound before legal) h known ((legal_logs c before legal).history (LogId.Host h)).sound e meets)
    (alone h known))
