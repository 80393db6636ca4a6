-- Phases one after another.
use Rattle.std.proofs.Common.{◌≡◌, ℕ, suc, ◌+◌, ◌<◌, ◌≤◌, List, [], ◌∷◌, ◌++◌, length, map, ap, sym, subst, ◌∙◌, arith, IsTrue}
use Rattle.std.proofs.lemmas.{Bool.and_parts, List.append_assoc, List.length-append, List.map-append, List.nil_from_length, List.Folds.list_all-append}
use Rattle.std.specs.{List.list_all, Prelude.Bool}
use Rattle.journal_core.specs.Merging.{Call}
use Rattle.script_codec.specs.declared.script_line.Line.{Line}
use Rattle.workers.proofs.{Growing.grown_more, Growing.grown_none, Growing.room_left, Growing.tasks_parts, Standing.same_itself, Standing.same_pass}
use Rattle.workers.specs.{Handling.HandlerReads, Phases.GrownTo, Phases.Task, Phases.phase, Phases.phase_length, Phases.task_of, Phases.tasks}
use Rattle.workers.specs.Serving.{EachPair, EachReady, EachServed, EachServedSome, IsReady, KeepsPass}

pub some_lines : (lines : List Line) → 0 < length lines → 0 < phase_length lines
some_lines [] some = some
some_lines (Line.Mark ∷ lines) some = omega arith
some_lines (Line.Do actor lane act ∷ lines) some = omega arith

pub no_more_lines : (lines : List Line) → phase_length lines ≤ length lines
no_more_lines [] = omega arith
no_more_lines (Line.Mark ∷ lines) = omega arith
no_more_lines (Line.Do actor lane act ∷ lines) = let rest = no_more_lines lines in omega (arith, rest)

pub sound_parts : (test : Line → Bool) (lines front back : List Line) → lines ≡ front ++ back → IsTrue (list_all test lines) → IsTrue (list_all test front) × IsTrue (list_all test back)
sound_parts test lines front back is all = and_parts (list_all test front) (list_all test back) (sym (ap (list_all test) is ∙ list_all-append test front back) ∙ all)

-- done to what was left, and then some first ones of it
grown_some : (todo left now rest more_left : List Task) (old mid new : List Call) → GrownTo todo left old mid → left ≡ now ++ rest → GrownTo now more_left mid new → GrownTo todo (more_left ++ rest) old new
grown_some todo left now rest more_left old mid new a split b = record {
  more = a.more ++ b.more;
  grown = b.grown ∙ (ap (λ m. m ++ b.more) a.grown ∙ append_assoc old a.more b.more);
  each =
      ap (λ ts. ts ++ (more_left ++ rest)) (map-append task_of a.more b.more)
      ∙ (append_assoc (map task_of a.more) (map task_of b.more) (more_left ++ rest)
      ∙ (ap (λ ts. map task_of a.more ++ ts) (sym (append_assoc (map task_of b.more) more_left rest) ∙ (ap (λ ts. ts ++ rest) b.each ∙ sym split)) ∙ a.each));
}

module _ {H P : Type 0} (reads : HandlerReads H P) (handler : H) (hosts lanes first : ℕ) (lines : List Line) where
  -- the pass has done its lines but those that are left
  pub record HasServedTo (number : ℕ) (rest : List Line) (k : ℕ) (p q : P) : Type 0 where
    pub same : KeepsPass reads handler p q
    pub grown : GrownTo (tasks hosts lanes k first lines) (tasks hosts lanes k number rest) (reads.calls p) (reads.calls q)

  pub at_first : (k : ℕ) (passes : List P) → EachReady reads handler (phase hosts lanes first lines) k passes → EachPair (HasServedTo first lines) k passes passes
  at_first k [] ready = tt
  at_first k (p ∷ passes) ready =
      (record { same = same_itself reads handler p ready.0.mine; grown = grown_none (tasks hosts lanes k first lines) (reads.calls p) }, at_first (suc k) passes ready.1)

  one_ready : (number k : ℕ) (rest front back : List Line) (p q : P) → rest ≡ front ++ back → IsReady reads handler (phase hosts lanes first lines) k p → HasServedTo number rest k p q
      → IsReady reads handler (phase hosts lanes number front) k q
  one_ready number k rest front back p q is ready to =
      let left = room_left (tasks hosts lanes k first lines) (tasks hosts lanes k number rest) (reads.calls p) (reads.calls q) to.grown in
      let parts = ap length (ap (λ ls. tasks hosts lanes k number ls) is ∙ tasks_parts hosts lanes k number front back) ∙ length-append (tasks hosts lanes k number front) (tasks hosts lanes k (number + length front) back) in
      let room = ready.room in
      record {
        mine = to.same.mine;
        number = to.same.number ∙ ready.number;
        actor = λ actor lane act sound at. to.same.actor ∙ ready.actor actor lane act sound at;
        room = omega (arith, left, parts, room);
      }

  pub phase_ready : (number k : ℕ) (rest front back : List Line) (old now : List P) → rest ≡ front ++ back → EachReady reads handler (phase hosts lanes first lines) k old → EachPair (HasServedTo number rest) k old now
      → EachReady reads handler (phase hosts lanes number front) k now
  phase_ready number k rest front back [] [] is ready to = tt
  phase_ready number k rest front back [] (q ∷ now) is ready to = absurd to
  phase_ready number k rest front back (p ∷ old) [] is ready to = absurd to
  phase_ready number k rest front back (p ∷ old) (q ∷ now) is ready to =
      (one_ready number k rest front back p q is ready.0 to.0, phase_ready number (suc k) rest front back old now is ready.1 to.1)

  pub phase_served : (number next k : ℕ) (rest front back : List Line) (old now new : List P) → rest ≡ front ++ back → next ≡ number + length front → EachPair (HasServedTo number rest) k old now
      → EachServed reads handler (phase hosts lanes number front) k now new → EachPair (HasServedTo next back) k old new
  phase_served number next k rest front back [] [] [] is at to served = tt
  phase_served number next k rest front back [] [] (r ∷ new) is at to served = absurd served
  phase_served number next k rest front back [] (q ∷ now) new is at to served = absurd to
  phase_served number next k rest front back (p ∷ old) [] new is at to served = absurd to
  phase_served number next k rest front back (p ∷ old) (q ∷ now) [] is at to served = absurd served
  phase_served number next k rest front back (p ∷ old) (q ∷ now) (r ∷ new) is at to served =
      let parts = ap (λ ls. tasks hosts lanes k number ls) is ∙ (tasks_parts hosts lanes k number front back ∙ ap (λ m. tasks hosts lanes k number front ++ tasks hosts lanes k m back) (sym at)) in (
        record {
          same = same_pass reads handler p q r to.0.same served.0.same;
          grown = grown_more (tasks hosts lanes k first lines) (tasks hosts lanes k number rest) (tasks hosts lanes k number front) (tasks hosts lanes k next back) (reads.calls p) (reads.calls q) (reads.calls r) to.0.grown parts served.0.grown;
        },
        phase_served number next (suc k) rest front back old now new is at to.1 served.1,
      )

  pub phase_stopped : (number k : ℕ) (rest front back : List Line) (old now new : List P) → rest ≡ front ++ back → EachPair (HasServedTo number rest) k old now
      → EachServedSome reads handler (phase hosts lanes number front) k now new → EachServedSome reads handler (phase hosts lanes first lines) k old new
  phase_stopped number k rest front back [] [] [] is to served = tt
  phase_stopped number k rest front back [] [] (r ∷ new) is to served = absurd served
  phase_stopped number k rest front back [] (q ∷ now) new is to served = absurd to
  phase_stopped number k rest front back (p ∷ old) [] new is to served = absurd to
  phase_stopped number k rest front back (p ∷ old) (q ∷ now) [] is to served = absurd served
  phase_stopped number k rest front back (p ∷ old) (q ∷ now) (r ∷ new) is to served =
      let parts = ap (λ ls. tasks hosts lanes k number ls) is ∙ tasks_parts hosts lanes k number front back in (
        record {
          same = same_pass reads handler p q r to.0.same served.0.same;
          left = served.0.left ++ tasks hosts lanes k (number + length front) back;
          grown = grown_some (tasks hosts lanes k first lines) (tasks hosts lanes k number rest) (tasks hosts lanes k number front) (tasks hosts lanes k (number + length front) back) served.0.left
              (reads.calls p) (reads.calls q) (reads.calls r) to.0.grown parts served.0.grown;
        },
        phase_stopped number (suc k) rest front back old now new is to.1 served.1,
      )

  pub all_served : (number k : ℕ) (rest : List Line) (old now : List P) → length rest ≡ 0 → EachPair (HasServedTo number rest) k old now → EachServed reads handler (phase hosts lanes first lines) k old now
  all_served number k rest [] [] is to = tt
  all_served number k rest [] (q ∷ now) is to = absurd to
  all_served number k rest (p ∷ old) [] is to = absurd to
  all_served number k rest (p ∷ old) (q ∷ now) is to = (
    record { same = to.0.same; grown = subst (λ ls. GrownTo (tasks hosts lanes k first lines) (tasks hosts lanes k number ls) (reads.calls p) (reads.calls q)) (nil_from_length rest is) to.0.grown },
    all_served number (suc k) rest old now is to.1,
  )

  pub some_served : (number k : ℕ) (rest : List Line) (old now : List P) → EachPair (HasServedTo number rest) k old now → EachServedSome reads handler (phase hosts lanes first lines) k old now
  some_served number k rest [] [] to = tt
  some_served number k rest [] (q ∷ now) to = absurd to
  some_served number k rest (p ∷ old) [] to = absurd to
  some_served number k rest (p ∷ old) (q ∷ now) to = (record { same = to.0.same; left = tasks hosts lanes k number rest; grown = to.0.grown }, some_served number (suc k) rest old now to.1)
