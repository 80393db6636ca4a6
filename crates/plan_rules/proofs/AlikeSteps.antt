-- Journals that are alike go on being so.
use Rattle.std.proofs.Common.{◌≡◌, ℕ, ◌+◌, true, false, List, [], ◌∷◌, ◌++◌, refl, sym, ap, ◌∙◌, append-nil, inl, inr, subst}
use Rattle.std.{specs.Prelude.if◌then◌else◌, specs.Prelude.IsFalse, specs.Prelude.IsTrue, specs.List.list_any, proofs.lemmas.Bool.cases_Bool, proofs.lemmas.List.Sums.fold_push}
use Rattle.dcd_base.specs.declared.{ids.HostId.HostId, steps.Actor.Actor}
use Rattle.region_config.specs.Configurations.{Configuration}
use Rattle.journal_core.{proofs.JournalSteps.effects-push, specs.Entries.effects, specs.Entries.is_control, specs.declared.acts.Act.Act, specs.declared.entries.Entry.Entry}
use Rattle.journal_core.specs.declared.outcome.Effect.{Effect}
use Rattle.isolation_laws.specs.device_rules.{proofs.Answered.answer_same, proofs.LegalSteps.by_steps, specs.Answers.answer, specs.Hosts.changes_of, specs.Hosts.moves}
use Rattle.isolation_laws.specs.device_rules.specs.Legal.{Legal, Meets, right_answer}
use Rattle.plan_rules.specs.{PlanAlike.PlanAlike, PlanAlike.replayed, PlanAlike.with_act_of, Holding.Step, Holding.entry_of_step, Holding.stepped}

never : IsTrue false → ⊥
never e = cc

not_true : IsFalse true → ⊥
not_true e = cc

-- how often a host's list has changed, with one more entry
moved : HostId → ℕ → List Effect → ℕ
moved h n new = if list_any (moves h) new then n + 1 else n

changes-push : (h : HostId) (journal : List Entry) (e : Entry) → changes_of h (journal ++ e ∷ []) ≡ moved h (changes_of h journal) e.effects
unfolding moved
changes-push h journal e = fold_push (λ n (x : Entry). if list_any (moves h) x.effects then n + 1 else n) 0 journal e

-- entries with the same effects
pub alike_push : (a b : List Entry) (d e : Entry) → PlanAlike a b → d.effects ≡ e.effects → PlanAlike (a ++ d ∷ []) (b ++ e ∷ [])
alike_push a b d e alike same = record {
  past = effects-push a d ∙ (λ i. alike.past i ++ same i) ∙ sym (effects-push b e);
  changes = λ h. changes-push h a d ∙ (λ i. moved h (alike.changes h i) (same i)) ∙ sym (changes-push h b e);
}

-- an entry without effects
alike_alone : (a b : List Entry) (e : Entry) → PlanAlike a b → e.effects ≡ [] → PlanAlike a (b ++ e ∷ [])
unfolding moved
alike_alone a b e alike none = record {
  past = alike.past ∙ sym (effects-push b e ∙ ap (λ new. effects b ++ new) none ∙ append-nil (effects b));
  changes = λ h. alike.changes h ∙ sym (changes-push h b e ∙ ap (moved h (changes_of h b)) none);
}

module _ (c : Configuration) where
  no_effects : (before : List Entry) (actor : Actor) (act : Act) → IsFalse (is_control act) → (right_answer c before actor act).1 ≡ []
  no_effects before (Actor.Host h) (Act.Load d) is = refl
  no_effects before (Actor.Host h) (Act.Store d value) is = refl
  no_effects before Actor.Manager (Act.Load d) is = refl
  no_effects before Actor.Manager (Act.Store d value) is = refl
  no_effects before Actor.Sanitizer (Act.Load d) is = refl
  no_effects before Actor.Sanitizer (Act.Store d value) is = refl
  no_effects before actor (Act.Command q) is = absurd (not_true is)
  no_effects before actor (Act.Scrub n) is = absurd (not_true is)

  answered : (before : List Entry) (actor : Actor) (act : Act) → IsTrue (is_control act) → right_answer c before actor act ≡ answer c before actor act
  answered before (Actor.Host h) (Act.Command q) is = refl
  answered before (Actor.Host h) (Act.Scrub n) is = refl
  answered before Actor.Manager act is = refl
  answered before Actor.Sanitizer act is = refl
  answered before (Actor.Host h) (Act.Load d) is = absurd (never is)
  answered before (Actor.Host h) (Act.Store d value) is = absurd (never is)

  alike_entry : (a b : List Entry) (e : Entry) → PlanAlike a b → Meets c b e → PlanAlike (with_act_of c a e) (b ++ e ∷ [])
  alike_entry a b e alike meets = elim (cases_Bool (is_control e.act)) [
    | inl is ↦ rw is (alike_push a b (entry_of_step c a (e.actor, e.act)) e alike (
        ap (λ r. r.1) (answer_same c a b alike.past alike.changes e.actor e.act)
        ∙ sym (meets.effects ∙ ap (λ r. r.1) (answered b e.actor e.act is))))
    | inr is ↦ rw is (alike_alone a b e alike (meets.effects ∙ no_effects b e.actor e.act is))
  ]

  pub alike_replayed : (journal : List Entry) → Legal c journal → PlanAlike (replayed c journal) journal
  alike_replayed = by_steps c (λ journal. PlanAlike (replayed c journal) journal) (record { past = refl; changes = λ h. refl })
      (λ before e legal alike meets. subst (λ again. PlanAlike again (before ++ e ∷ [])) (sym (fold_push (with_act_of c) [] before e)) (alike_entry (replayed c before) before e alike meets))

  -- one more act, and a whole list
  pub alike_step : (a b : List Entry) (s : Step) → PlanAlike a b → PlanAlike (a ++ entry_of_step c a s ∷ []) (b ++ entry_of_step c b s ∷ [])
  alike_step a b s alike = alike_push a b (entry_of_step c a s) (entry_of_step c b s) alike (ap (λ r. r.1) (answer_same c a b alike.past alike.changes s.0 s.1))

  pub alike_stepped : (a b : List Entry) (acts : List Step) → PlanAlike a b → PlanAlike (stepped c a acts) (stepped c b acts)
  alike_stepped a b [] alike = alike
  alike_stepped a b (s ∷ acts) alike = alike_stepped (a ++ entry_of_step c a s ∷ []) (b ++ entry_of_step c b s ∷ []) acts (alike_step a b s alike)
