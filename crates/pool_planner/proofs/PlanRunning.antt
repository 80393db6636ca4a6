-- The device behind a script and behind a list: one more line, and one more step.
use Rattle.std.proofs.Common.{◌≡◌, ℕ, ◌+◌, true, List, [], ◌∷◌, ◌++◌, length, refl, sym, ap, subst, ◌∙◌, arith, append-nil, inl, inr}
use Rattle.std.{specs.List.list_any, specs.Prelude.if◌then◌else◌, specs.Prelude.IsFalse, proofs.lemmas.Bool.cases_Bool, proofs.lemmas.List.length_push, proofs.lemmas.List.Sums.fold_push}
use Rattle.dcd_base.specs.declared.{ids.HostId.HostId, steps.Actor.Actor}
use Rattle.region_config.specs.Configurations.{Configuration}
use Rattle.journal_core.{proofs.EachPlaces.Each-at, proofs.JournalSteps.effects-push, specs.Entries.effects, specs.Entries.is_control, specs.declared.acts.Act.Act, specs.declared.entries.Entry.Entry}
use Rattle.journal_core.specs.declared.outcome.Effect.{Effect}
use Rattle.device_plain.{proofs.Numbered.commands-push, specs.Devices.Plain, specs.Numbering.commands_of, specs.device_rules.proofs.Answered.answer_same, specs.device_rules.proofs.LegalSteps.by_steps}
use Rattle.device_plain.specs.device_rules.specs.{Answers.answer, Hosts.changes_of, Hosts.moves, Legal.Legal, Legal.Meets, Legal.right_answer}
use Rattle.report.specs.script_codec.{specs.Covering.IsEntryOf, specs.Covering.Runs, specs.declared.script_line.Line.Line, proofs.CoveringLaws.Runs-do, proofs.CoveringLaws.Runs-mark}
use Rattle.plan_rules.{specs.Holding.Step, specs.Holding.entry_of_step, specs.Holding.stepped, specs.PlanAlike.PlanAlike, proofs.AlikeSteps.alike_push}
use Rattle.pool_planner.specs.PlanRuns.{AddsScriptLine, IsBehind, IsBehindList}

-- ---- lines of a script

pub one_more_line : (hosts lanes number : ℕ) (lines : List Line) (l : Line) (old new : List Entry) → number ≡ length lines + 1
    → Runs hosts lanes 1 lines old → AddsScriptLine hosts lanes number l old new → Runs hosts lanes 1 (lines ++ l ∷ []) new
one_more_line hosts lanes number lines (Line.Do actor lane act) old new counted runs adds =
    let its : IsEntryOf hosts lanes (1 + length lines) actor lane act adds.0 = subst (λ n. IsEntryOf hosts lanes n actor lane act adds.0) (omega (arith, counted)) adds.1 in
    subst (λ journal. Runs hosts lanes 1 (lines ++ Line.Do actor lane act ∷ []) journal) (sym adds.2) (Runs-do hosts lanes 1 lines old actor lane act adds.0 runs its)
one_more_line hosts lanes number lines Line.Mark old new counted runs adds =
    subst (λ journal. Runs hosts lanes 1 (lines ++ Line.Mark ∷ []) journal) (sym adds) (Runs-mark hosts lanes 1 lines old runs)

-- ---- steps of a list

module _ (c : Configuration) where
  stepped-push : (journal : List Entry) (acts : List Step) (s : Step) → stepped c journal (acts ++ s ∷ []) ≡ stepped c journal acts ++ entry_of_step c (stepped c journal acts) s ∷ []
  stepped-push journal [] s = refl
  stepped-push journal (t ∷ acts) s = stepped-push (journal ++ entry_of_step c journal t ∷ []) acts s

  -- a load or a store has no effects, whoever answers it
  right_effects : (before : List Entry) (actor : Actor) (act : Act) → (right_answer c before actor act).1 ≡ (answer c before actor act).1
  right_effects before (Actor.Host h) (Act.Command q) = refl
  right_effects before (Actor.Host h) (Act.Load d) = refl
  right_effects before (Actor.Host h) (Act.Store d value) = refl
  right_effects before (Actor.Host h) (Act.Scrub n) = refl
  right_effects before Actor.Manager act = refl
  right_effects before Actor.Sanitizer act = refl

  behind_alike : (a b : List Entry) (e : Entry) (s : Step) → PlanAlike a b → Legal c (a ++ e ∷ []) → e.actor ≡ s.0 → e.act ≡ s.1
      → PlanAlike (a ++ e ∷ []) (b ++ entry_of_step c b s ∷ [])
  behind_alike a b e s alike legal actor act =
      let meets : Meets c a e = Each-at (Meets c) (a ++ e ∷ []) a e [] refl legal in
      alike_push a b e (entry_of_step c b s) alike (
      meets.effects ∙ right_effects a e.actor e.act ∙ (λ i. (answer c a (actor i) (act i)).1)
      ∙ ap (λ r. r.1) (answer_same c a b alike.past alike.changes s.0 s.1))

pub one_more_step : (start old new : Plain) (acts : List Step) (s : Step) → IsBehindList start old acts → IsBehind old new s → IsBehindList start new (acts ++ s ∷ [])
one_more_step start old new acts s behind step =
    let c = start.config in
    let same : new.config ≡ c = step.config ∙ behind.config in
    let legal : Legal c (old.journal ++ step.entry ∷ []) = subst (λ (journal : List Entry). Legal c journal) step.journal (subst (λ (k : Configuration). Legal k new.journal) same step.legal) in
    let next : PlanAlike (old.journal ++ step.entry ∷ []) (stepped c start.journal acts ++ entry_of_step c (stepped c start.journal acts) s ∷ []) =
    behind_alike c old.journal (stepped c start.journal acts) step.entry s behind.alike legal step.actor step.act in
    let push = stepped-push c start.journal acts s in
    record {
      config = same;
      alike = subst (λ xs. PlanAlike new.journal xs) (sym push) (subst (λ xs. PlanAlike xs (stepped c start.journal acts ++ entry_of_step c (stepped c start.journal acts) s ∷ [])) (sym step.journal) next);
      count = ap length step.journal ∙ length_push old.journal step.entry ∙ ap (λ n. n + 1) behind.count
          ∙ sym (ap length push ∙ length_push (stepped c start.journal acts) (entry_of_step c (stepped c start.journal acts) s));
    }

-- ---- the commands and scrubs of a journal alone

-- how often a host's list has changed, with one more entry
moved : HostId → ℕ → List Effect → ℕ
moved h n new = if list_any (moves h) new then n + 1 else n

changes-push : (h : HostId) (journal : List Entry) (e : Entry) → changes_of h (journal ++ e ∷ []) ≡ moved h (changes_of h journal) e.effects
unfolding moved
changes-push h journal e = fold_push (λ n (x : Entry). if list_any (moves h) x.effects then n + 1 else n) 0 journal e

-- an entry without effects
alike_alone : (a b : List Entry) (e : Entry) → PlanAlike a b → e.effects ≡ [] → PlanAlike a (b ++ e ∷ [])
unfolding moved
alike_alone a b e alike none = record {
  past = alike.past ∙ sym (effects-push b e ∙ ap (λ new. effects b ++ new) none ∙ append-nil (effects b));
  changes = λ h. alike.changes h ∙ sym (changes-push h b e ∙ ap (moved h (changes_of h b)) none);
}

not_true : IsFalse true → ⊥
not_true e = cc

module _ (c : Configuration) where
  no_effects : (before : List Entry) (actor : Actor) (act : Act) → IsFalse (is_control act) → (right_answer c before actor act).1 ≡ []
  no_effects before (Actor.Host h) (Act.Load d) is = refl
  no_effects before (Actor.Host h) (Act.Store d value) is = refl
  no_effects before Actor.Manager (Act.Load d) is = refl
  no_effects before Actor.Manager (Act.Store d value) is = refl
  no_effects before Actor.Sanitizer (Act.Load d) is = refl
  no_effects before Actor.Sanitizer (Act.Store d value) is = refl
  no_effects before actor (Act.Command q) is = absurd (not_true is)
  no_effects before actor (Act.Scrub n) is = absurd (not_true is)

  one_kept : (before : List Entry) (e : Entry) → PlanAlike (commands_of before) before → Meets c before e → PlanAlike (commands_of (before ++ e ∷ [])) (before ++ e ∷ [])
  one_kept before e alike meets = elim (cases_Bool (is_control e.act)) [
    | inl is ↦ rw (commands-push before e, is) (alike_push (commands_of before) before e e alike refl)
    | inr is ↦ rw (commands-push before e, is, append-nil) (alike_alone (commands_of before) before e alike (meets.effects ∙ no_effects before e.actor e.act is))
  ]

  pub commands_alike : (journal : List Entry) → Legal c journal → PlanAlike (commands_of journal) journal
  commands_alike = by_steps c (λ journal. PlanAlike (commands_of journal) journal) (record { past = refl; changes = λ h. refl }) (λ before e legal alike meets. one_kept before e alike meets)
