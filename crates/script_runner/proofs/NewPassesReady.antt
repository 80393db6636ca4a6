-- New passes may do the lines of a script.
use Rattle.std.proofs.Common.{◌≡◌, ℕ, suc, ◌+◌, ◌≤◌, ◌==◌, Bool, true, false, List, [], ◌∷◌, length, if◌then◌else◌, sym, ap, ◌∙◌, subst, refl, arith}
use mathlib.Core.Option.{some, some-injective}
use lib.ListN.{get_elem?}
use Rattle.script_gen.specs.script_codec.specs.{declared.script_line.Line.Line, Covering.pass_of}
use Rattle.script_runner.{specs.ScriptPasses.AreNewPasses, specs.SharedPasses.shared_reads, proofs.LineActors.line_actor}
use Rattle.shared_device.specs.{Commanding.actors_of, declared.pass.Pass.Pass, declared.shared.Shared.Shared, Passing.IsNewPass, Passing.pass_actor, Passing.pass_calls}
use Rattle.std.specs.{Prelude.IfOk, declared.result.Result.Result, declared.result.Result.TheVariants.Ok, declared.result.Result.TheVariants.Err}
use Rattle.workers.specs.{Handling.HandlerReads, Phases.Phase, Phases.phase, Phases.tasks, Serving.EachReady, Serving.IsReady}

-- what follows from two facts of what is answered
pub both_ok : {A E : Type 0} {P Q S : A → Type 0} (r : Result A E) → ((a : A) → P a → Q a → S a) → IfOk r P → IfOk r Q → IfOk r S
both_ok (Ok a) so p q = so a p q
both_ok (Err e) so p q = tt

-- no more tasks than lines
pub tasks_few : (hosts lanes k n : ℕ) (lines : List Line) → length (tasks hosts lanes k n lines) ≤ length lines
tasks_few hosts lanes k n [] = omega arith
tasks_few hosts lanes k n (Line.Mark ∷ lines) = let rest = tasks_few hosts lanes k (n + 1) lines in omega (arith, rest)
tasks_few hosts lanes k n (Line.Do actor lane act ∷ lines) =
    by_pass (pass_of hosts lanes actor lane == k) (record { line = n; act = act }) (tasks hosts lanes k (n + 1) lines) (tasks_few hosts lanes k (n + 1) lines)
  where
    by_pass : {T : Type 0} (b : Bool) (t : T) (ts : List T) → length ts ≤ length lines → length (if b then t ∷ ts else ts) ≤ length (Line.Do actor lane act ∷ lines)
    by_pass true t ts few = omega (arith, few)
    by_pass false t ts few = omega (arith, few)

each_ready : {H P : Type 0} (reads : HandlerReads H P) (handler : H) (f : Phase) (k : ℕ) (passes : List P) → ((i : ℕ) (p : P) → get_elem? passes i ≡ some p → IsReady reads handler f (k + i) p)
    → EachReady reads handler f k passes
each_ready reads handler f k [] each = tt
each_ready reads handler f k (p ∷ passes) each =
    let here : k + 0 ≡ k = omega arith in (
      subst (λ n. IsReady reads handler f n p) here (each 0 p refl),
      each_ready reads handler f (suc k) passes (λ i q at. let moved : k + suc i ≡ suc k + i = omega arith in subst (λ n. IsReady reads handler f n q) moved (each (suc i) q at)),
    )

module _ {H : Type 0} (device : H → Shared) (handler : H) (lanes : ℕ) (lines : List Line) (few : length lines ≤ 65536) where
  new_ready : (k : ℕ) (p : Pass) → IsNewPass (device handler) (actors_of (device handler).config lanes) k p
      → IsReady (shared_reads device) handler (phase (device handler).config.hosts lanes 1 lines) k p
  new_ready k p new = record {
    mine = new.of;
    number = new.number;
    actor = λ actor lane act sound is.
        some-injective (pass_actor p) actor
        (sym new.actor ∙ (ap (λ n. get_elem? (actors_of (device handler).config lanes) n) (sym is) ∙ line_actor (device handler).config lanes actor lane act sound));
    room =
        let none : length (pass_calls p) ≡ 0 = ap length new.calls in
        let most = tasks_few (device handler).config.hosts lanes k 1 lines in
        omega (arith, none, most, few);
  }

  pub all_ready : (passes : List Pass) → AreNewPasses (device handler) lanes passes
      → EachReady (shared_reads device) handler (phase (device handler).config.hosts lanes 1 lines) 0 passes
  all_ready passes new =
      each_ready (shared_reads device) handler (phase (device handler).config.hosts lanes 1 lines) 0 passes
      (λ i p at. let same : i ≡ 0 + i = omega arith in
      subst (λ n. IsReady (shared_reads device) handler (phase (device handler).config.hosts lanes 1 lines) n p) same (new_ready i p (new i p at)))
