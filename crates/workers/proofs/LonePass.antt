-- The lines of a phase that one pass has alone: the other passes stay as they were.
use Rattle.std.proofs.Common.{◌≡◌, ℕ, zero, suc, ◌+◌, ◌<◌, List, [], ◌∷◌, length, get_or, set, refl, sym, subst, ◌∙◌, arith, IsTrue, OnOk}
use Rattle.std.{proofs.lemmas.Bool.and_parts, proofs.lemmas.Bool.eqb-true, specs.List.list_all}
use Rattle.std.specs.{Prelude.◌==◌, Prelude.Bool, Prelude.true, Prelude.false, Prelude.if◌then◌else◌, declared.result.Result.Result}
use Rattle.std.specs.declared.result.Result.TheVariants.{Ok, Err}
use Rattle.script_codec.specs.{declared.script_line.Line.Line, Covering.pass_of}
use Rattle.workers.{proofs.Growing.grown_none, proofs.Standing.same_itself, specs.Handling.HandlerReads}
use Rattle.workers.specs.Phases.{Grown, Phase, is_no_others, phase, tasks}
use Rattle.workers.specs.Serving.{EachPair, EachReady, EachServed, EachServedSome, HasServed, HasServedSome, IsReady}

-- another pass has no task among them
others_idle : (hosts lanes k j n : ℕ) (lines : List Line) → (j ≡ k → ⊥) → IsTrue (list_all (is_no_others hosts lanes k) lines) → tasks hosts lanes j n lines ≡ []
others_idle hosts lanes k j n [] apart alone = refl
others_idle hosts lanes k j n (Line.Mark ∷ lines) apart alone = others_idle hosts lanes k j (n + 1) lines apart alone
others_idle hosts lanes k j n (Line.Do actor lane act ∷ lines) apart alone =
    let parts = and_parts (pass_of hosts lanes actor lane == k) (list_all (is_no_others hosts lanes k) lines) alone in
    by_pass (pass_of hosts lanes actor lane == j) (λ own. apart (sym (eqb-true (pass_of hosts lanes actor lane) j own) ∙ eqb-true (pass_of hosts lanes actor lane) k parts.0))
    (others_idle hosts lanes k j (n + 1) lines apart parts.1)
  where
    by_pass : (b : Bool) → (b ≡ true → ⊥) → tasks hosts lanes j (n + 1) lines ≡ [] → (if b then record { line = n; act = act } ∷ tasks hosts lanes j (n + 1) lines else tasks hosts lanes j (n + 1) lines) ≡ []
    by_pass true other none = absurd (other refl)
    by_pass false other none = none

-- each item has it with itself
all_same : {P : Type 0} (R : ℕ → P → P → Type 0) (k : ℕ) (passes : List P) (d : P) → ((j : ℕ) (p : P) → j < length passes → p ≡ get_or passes j d → R (k + j) p p) → EachPair R k passes passes
all_same R k [] d each = tt
all_same R k (p ∷ passes) d each = (
  subst (λ n. R n p p) (omega arith) (each 0 p (omega arith) refl),
  all_same R (suc k) passes d (λ j q low is. subst (λ n. R n q q) (omega arith) (each (suc j) q (omega (arith, low)) is)),
)

-- one item of a list is exchanged
one_changed : {P : Type 0} (R : ℕ → P → P → Type 0) (k i : ℕ) (passes : List P) (d q : P) → i < length passes → ((j : ℕ) (p : P) → j < length passes → (j ≡ i → ⊥) → p ≡ get_or passes j d → R (k + j) p p)
    → R (k + i) (get_or passes i d) q → EachPair R k passes (set passes i q)
one_changed R k i [] d q lt same new = absurd (omega (arith, lt))
one_changed R k zero (p ∷ passes) d q lt same new = (
  subst (λ n. R n p q) (omega arith) new,
  all_same R (suc k) passes d (λ j r low is. subst (λ n. R n r r) (omega arith) (same (suc j) r (omega (arith, low)) (λ e. absurd (omega (arith, e))) is)),
)
one_changed R k (suc i) (p ∷ passes) d q lt same new = (
  subst (λ n. R n p p) (omega arith) (same 0 p (omega arith) (λ e. absurd (omega (arith, e))) refl),
  one_changed R (suc k) i passes d q (omega (arith, lt)) (λ j r low apart is. subst (λ n. R n r r) (omega arith) (same (suc j) r (omega (arith, low)) (λ e. apart (omega (arith, e))) is))
      (subst (λ n. R n (get_or passes i d) q) (omega arith) new),
)

module _ {H P : Type 0} (reads : HandlerReads H P) (handler : H) where
  ready_at : (f : Phase) (k i : ℕ) (passes : List P) (p d : P) → EachReady reads handler f k passes → i < length passes → p ≡ get_or passes i d → IsReady reads handler f (k + i) p
  ready_at f k i [] p d ready lt is = absurd (omega (arith, lt))
  ready_at f k zero (q ∷ passes) p d ready lt is = subst (λ r. IsReady reads handler f (k + 0) r) (sym is) (subst (λ n. IsReady reads handler f n q) (omega arith) ready.0)
  ready_at f k (suc i) (q ∷ passes) p d ready lt is = subst (λ n. IsReady reads handler f n p) (omega arith) (ready_at f (suc k) i passes p d ready.1 (omega (arith, lt)) is)

  pub lone_ready : (f : Phase) (k : ℕ) (passes : List P) (d : P) → EachReady reads handler f 0 passes → k < length passes → IsReady reads handler f k (get_or passes k d)
  lone_ready f k passes d ready lt = subst (λ n. IsReady reads handler f n (get_or passes k d)) (omega arith) (ready_at f 0 k passes (get_or passes k d) d ready lt refl)

  module _ (hosts lanes first : ℕ) (lines : List Line) (k : ℕ) (passes : List P) (d q : P) where
    idle : (j : ℕ) (r : P) → EachReady reads handler (phase hosts lanes first lines) 0 passes → IsTrue (list_all (is_no_others hosts lanes k) lines) → j < length passes → (j ≡ k → ⊥) → r ≡ get_or passes j d
        → HasServed reads handler (phase hosts lanes first lines) (0 + j) r r
    idle j r ready alone lt apart is =
        let none : tasks hosts lanes (0 + j) first lines ≡ [] = others_idle hosts lanes k (0 + j) first lines (λ e. apart (omega (arith, e))) alone in
        record {
          same = same_itself reads handler r (ready_at (phase hosts lanes first lines) 0 j passes r d ready lt is).mine;
          grown = subst (λ ts. Grown ts (reads.calls r) (reads.calls r)) (sym none) (grown_none [] (reads.calls r));
        }

    pub lone_served : {E : Type 0} (result : Result (Unit {0}) E) → EachReady reads handler (phase hosts lanes first lines) 0 passes → IsTrue (list_all (is_no_others hosts lanes k) lines) → k < length passes
        → OnOk result (HasServed reads handler (phase hosts lanes first lines) k (get_or passes k d) q) → OnOk result (EachServed reads handler (phase hosts lanes first lines) 0 passes (set passes k q))
    lone_served (Err e) ready alone lt served = tt
    lone_served (Ok u) ready alone lt served =
        one_changed (HasServed reads handler (phase hosts lanes first lines)) 0 k passes d q lt (λ j r low apart at. idle j r ready alone low apart at)
        (subst (λ n. HasServed reads handler (phase hosts lanes first lines) n (get_or passes k d) q) (omega arith) served)

    pub lone_begun : EachReady reads handler (phase hosts lanes first lines) 0 passes → IsTrue (list_all (is_no_others hosts lanes k) lines) → k < length passes
        → HasServedSome reads handler (phase hosts lanes first lines) k (get_or passes k d) q → EachServedSome reads handler (phase hosts lanes first lines) 0 passes (set passes k q)
    lone_begun ready alone lt begun =
        one_changed (HasServedSome reads handler (phase hosts lanes first lines)) 0 k passes d q lt (λ j r low apart at. some_of (0 + j) r (idle j r ready alone low apart at))
        (subst (λ n. HasServedSome reads handler (phase hosts lanes first lines) n (get_or passes k d) q) (omega arith) begun)
      where
        some_of : (j : ℕ) (r : P) → HasServed reads handler (phase hosts lanes first lines) j r r → HasServedSome reads handler (phase hosts lanes first lines) j r r
        some_of j r served = record { same = served.same; left = []; grown = served.grown }
