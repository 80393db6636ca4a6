-- New passes that served all lines have run them.
use Rattle.std.proofs.Common.{◌≡◌, ℕ, zero, suc, ◌+◌, List, [], ◌∷◌, ◌++◌, length, map, take, sym, ap, ◌∙◌, subst, refl, zero-add, arith}
use Rattle.std.proofs.{Math.Seq.take-append_seam, lemmas.List.append-nil}
use mathlib.Core.Option.{some, some-injective, some-ne-none}
use lib.ListN.{get_elem?}
use Rattle.script_gen.specs.script_codec.specs.declared.script_line.Line.{Line}
use Rattle.script_runner.specs.{ScriptPasses.AreNewPasses, ScriptPasses.HasRun, ScriptPasses.HaveRun, SharedPasses.shared_reads}
use Rattle.shared_device.specs.{Commanding.actors_of, declared.pass.Pass.Pass, declared.shared.Shared.Shared, Passing.IsNewPass}
use Rattle.workers.specs.{Phases.phase, Phases.task_of, Serving.EachPair, Serving.EachServed, Serving.HasServed}

-- what was written into all of a list is what it has then
pub front_taken : {A : Type 0} (n : ℕ) (xs ys : List A) → length xs ≡ n → take n (xs ++ ys) ≡ xs
front_taken n xs ys long = ap (λ m. take m (xs ++ ys)) (sym long) ∙ take-append_seam xs ys

-- a pass after, and the one before of which it was
pair_at : {P : Type 0} (R : ℕ → P → P → Type 0) (k : ℕ) (old new : List P) → EachPair R k old new → (i : ℕ) (q : P) → get_elem? new i ≡ some q
    → (p : P) × (get_elem? old i ≡ some p) × R (k + i) p q
pair_at R k [] [] pairs i q at = absurd (some-ne-none q (sym at))
pair_at R k [] (y ∷ new) pairs i q at = absurd pairs
pair_at R k (x ∷ old) [] pairs i q at = absurd pairs
pair_at R k (x ∷ old) (y ∷ new) pairs zero q at =
    let here : k ≡ k + 0 = omega arith in
    (x, refl, subst (λ z. R (k + 0) x z) (some-injective y q at) (subst (λ n. R n x y) here pairs.0))
pair_at R k (x ∷ old) (y ∷ new) pairs (suc i) q at =
    let found = pair_at R (suc k) old new pairs.1 i q at in
    let moved : suc k + i ≡ k + suc i = omega arith in
    (found.0, found.1, subst (λ n. R n found.0 q) moved found.2)

module _ {H : Type 0} (device : H → Shared) (handler : H) (lanes : ℕ) (lines : List Line) where
  pass_ran : (k : ℕ) (p q : Pass) → IsNewPass (device handler) (actors_of (device handler).config lanes) k p
      → HasServed (shared_reads device) handler (phase (device handler).config.hosts lanes 1 lines) k p q → HasRun (device handler) lanes lines k q
  pass_ran k p q new served = record {
    of = served.same.mine;
    number = served.same.number ∙ new.number;
    actor = new.actor ∙ ap some (sym served.same.actor);
    calls =
        ap (λ calls. map task_of calls) (served.grown.grown ∙ ap (λ calls. calls ++ served.grown.more) new.calls)
        ∙ (sym (append-nil (map task_of served.grown.more)) ∙ served.grown.each);
  }

  pub all_ran : (old new : List Pass) → AreNewPasses (device handler) lanes old
      → EachServed (shared_reads device) handler (phase (device handler).config.hosts lanes 1 lines) 0 old new → HaveRun (device handler) lanes lines new
  all_ran old new fresh served = λ k q at.
      let found = pair_at (HasServed (shared_reads device) handler (phase (device handler).config.hosts lanes 1 lines)) 0 old new served k q at in
      pass_ran k found.0 q (fresh k found.0 found.1)
      (subst (λ n. HasServed (shared_reads device) handler (phase (device handler).config.hosts lanes 1 lines) n found.0 q) (zero-add k) found.2)
