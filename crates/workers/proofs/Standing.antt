-- A pass stands at a place of its lines: it has done those before it.
use Rattle.std.proofs.Common.{◌≡◌, ◌⊎◌, inl, inr, ℕ, suc, ◌+◌, ◌<◌, ◌≤◌, List, [], ◌∷◌, ◌++◌, length, get_or, drop, refl, ap, sym, subst, ◌∙◌, arith, IsTrue}
use Rattle.std.proofs.lemmas.{Bool.both_ways, Bool.cases_Bool, List.length-append, List.drop_more, List.drop_all, List.Folds.list_all_at}
use Rattle.std.specs.{List.list_all, Prelude.slice_index, Prelude.Bool, Prelude.true, Prelude.false}
use Rattle.script_codec.specs.declared.script_line.Line.{Line}
use Rattle.workers.{proofs.Growing.tasks_then, proofs.Growing.grown_more, proofs.Growing.grown_none, proofs.Growing.room_left, specs.Handling.HandlerReads}
use Rattle.workers.specs.Phases.{GrownTo, Grown, is_line_of, is_no_others, phase, tasks}
use Rattle.workers.specs.{Serving.IsReady, Serving.KeepsPass, Serving.HasServed, Serving.HasServedSome, Worklists.IsNextOf, Worklists.IsPlaceOf, Worklists.AreLinked}

-- each item of a list keeps what all keep
pub all_at : {X : Type 0} (test : X → Bool) (xs : List X) (i : ℕ) (x : X) → i < length xs → x ≡ get_or xs i x → IsTrue (list_all test xs) → IsTrue (test x)
all_at test xs i x lt is all = by_test (cases_Bool (test x))
  where
    by_test : (test x ≡ true) ⊎ (test x ≡ false) → IsTrue (test x)
    by_test (inl is_so) = is_so
    by_test (inr is_not) = absurd (both_ways (list_all test xs) (list_all_at test xs i x lt (ap test (sym is) ∙ is_not)) all)

-- the rest of a list begins with the item
pub rest_is : {X : Type 0} (xs : List X) (i : ℕ) (x : X) → i < length xs → x ≡ get_or xs i x → drop i xs ≡ x ∷ drop (i + 1) xs
rest_is xs i x lt is = drop_more xs i x lt ∙ ap (λ y. y ∷ drop (i + 1) xs) (sym is)

module _ {H P : Type 0} (reads : HandlerReads H P) (handler : H) where
  pub same_itself : (p : P) → reads.is_mine handler p → KeepsPass reads handler p p
  same_itself p mine = record { mine = mine; number = refl; actor = refl }

  pub same_pass : (p q r : P) → KeepsPass reads handler p q → KeepsPass reads handler q r → KeepsPass reads handler p r
  same_pass p q r a b = record { mine = b.mine; number = b.number ∙ a.number; actor = b.actor ∙ a.actor }

  module _ (hosts lanes first : ℕ) (lines : List Line) (k : ℕ) where
    pub record StandsAt (place : ℕ) (p q : P) : Type 0 where
      pub ready : IsReady reads handler (phase hosts lanes (first + place) (drop place lines)) k q
      pub same : KeepsPass reads handler p q
      pub grown : GrownTo (tasks hosts lanes k first lines) (tasks hosts lanes k (first + place) (drop place lines)) (reads.calls p) (reads.calls q)

    pub begins : (head : ℕ) (p : P) → IsNextOf hosts lanes lines k 0 head → IsReady reads handler (phase hosts lanes first lines) k p → StandsAt head p p
    begins head p next ready =
        let zero_more : first ≡ first + 0 = omega arith in
        let skips : tasks hosts lanes k first lines ≡ tasks hosts lanes k (first + head) (drop head lines) =
        ap (λ n. tasks hosts lanes k n lines) zero_more ∙ next.skips first in
        let long = ap length skips in
        let room = ready.room in
        record {
          ready = record { mine = ready.mine; number = ready.number; actor = ready.actor; room = omega (arith, long, room) };
          same = same_itself p ready.mine;
          grown = subst (λ left. GrownTo (tasks hosts lanes k first lines) left (reads.calls p) (reads.calls p)) skips (grown_none (tasks hosts lanes k first lines) (reads.calls p));
        }

    pub begins_first : (p : P) → IsReady reads handler (phase hosts lanes first lines) k p → StandsAt 0 p p
    begins_first p ready =
        let zero_more : first ≡ first + 0 = omega arith in
        record {
          ready = subst (λ n. IsReady reads handler (phase hosts lanes n lines) k p) zero_more ready;
          same = same_itself p ready.mine;
          grown = subst (λ n. GrownTo (tasks hosts lanes k first lines) (tasks hosts lanes k n lines) (reads.calls p) (reads.calls p)) zero_more (grown_none (tasks hosts lanes k first lines) (reads.calls p));
        }

    -- the tasks at a place are that of the line and those behind it
    tasks_at : (place : ℕ) (line : Line) → place < length lines → line ≡ get_or lines place line
        → tasks hosts lanes k (first + place) (drop place lines) ≡ tasks hosts lanes k (first + place) (line ∷ []) ++ tasks hosts lanes k (first + suc place) (drop (suc place) lines)
    tasks_at place line lt is =
        let number : first + place + 1 ≡ first + suc place = omega arith in
        let behind : place + 1 ≡ suc place = omega arith in
        ap (λ xs. tasks hosts lanes k (first + place) xs) (rest_is lines place line lt is)
        ∙ (tasks_then hosts lanes k (first + place) line (drop (place + 1) lines)
        ∙ (ap (λ n. tasks hosts lanes k (first + place) (line ∷ []) ++ tasks hosts lanes k n (drop (place + 1) lines)) number
        ∙ ap (λ n. tasks hosts lanes k (first + place) (line ∷ []) ++ tasks hosts lanes k (first + suc place) (drop n lines)) behind))

    pub line_ready : (place : ℕ) (p q : P) (line : Line) → StandsAt place p q → place < length lines → line ≡ get_or lines place line
        → IsReady reads handler (phase hosts lanes (first + place) (line ∷ [])) k q
    line_ready place p q line at lt is =
        let long = ap length (tasks_at place line lt is) ∙ length-append (tasks hosts lanes k (first + place) (line ∷ [])) (tasks hosts lanes k (first + suc place) (drop (suc place) lines)) in
        let room = at.ready.room in
        record { mine = at.ready.mine; number = at.ready.number; actor = at.ready.actor; room = omega (arith, long, room) }

    pub line_own : (place : ℕ) (line : Line) → IsPlaceOf hosts lanes lines k place → place < length lines → line ≡ get_or lines place line → IsTrue (is_no_others hosts lanes k line)
    line_own place line there lt is = no_others line (ap (λ x. is_line_of hosts lanes k x) is ∙ there.own line lt)
      where
        no_others : (x : Line) → IsTrue (is_line_of hosts lanes k x) → IsTrue (is_no_others hosts lanes k x)
        no_others Line.Mark own = refl
        no_others (Line.Do actor lane act) own = own

    -- from a line on to the next place, where no line between is the pass's
    pub goes_to : (place next : ℕ) (p q r : P) (line : Line) → StandsAt place p q → place < length lines → line ≡ get_or lines place line
        → tasks hosts lanes k (first + suc place) (drop (suc place) lines) ≡ tasks hosts lanes k (first + next) (drop next lines)
        → KeepsPass reads handler q r → Grown (tasks hosts lanes k (first + place) (line ∷ [])) (reads.calls q) (reads.calls r) → StandsAt next p r
    goes_to place next p q r line at lt is skips same grown =
        let now : List _ = tasks hosts lanes k (first + place) (line ∷ []) in
        let rest : List _ = tasks hosts lanes k (first + next) (drop next lines) in
        let parts : tasks hosts lanes k (first + place) (drop place lines) ≡ now ++ rest =
        tasks_at place line lt is ∙ ap (λ ts. tasks hosts lanes k (first + place) (line ∷ []) ++ ts) skips in
        let long = ap length parts ∙ length-append now rest in
        let room = at.ready.room in
        let more = room_left now [] (reads.calls q) (reads.calls r) grown in
        record {
          ready = record {
            mine = same.mine;
            number = same.number ∙ at.ready.number;
            actor = λ actor lane act sound is. same.actor ∙ at.ready.actor actor lane act sound is;
            room = omega (arith, long, room, more);
          };
          same = same_pass p q r at.same same;
          grown = grown_more (tasks hosts lanes k first lines) (tasks hosts lanes k (first + place) (drop place lines)) now rest (reads.calls p) (reads.calls q) (reads.calls r) at.grown parts grown;
        }

    -- to the next line of the pass, as they are linked
    pub next_there : (place after : ℕ) (line : Line) (next : List ℕ) → after ≡ slice_index next place → IsPlaceOf hosts lanes lines k place → place < length lines → AreLinked hosts lanes lines 0 next
        → IsPlaceOf hosts lanes lines k after
    next_there place after line next is there lt linked = subst (λ n. IsPlaceOf hosts lanes lines k n) (sym is) (linked place k line (omega arith) lt (there.own line lt)).there

    pub goes_on : (place after : ℕ) (p q r : P) (line : Line) (next : List ℕ) → after ≡ slice_index next place → IsPlaceOf hosts lanes lines k place → StandsAt place p q → place < length lines
        → line ≡ get_or lines place line → AreLinked hosts lanes lines 0 next
        → KeepsPass reads handler q r → Grown (tasks hosts lanes k (first + place) (line ∷ [])) (reads.calls q) (reads.calls r) → StandsAt after p r
    goes_on place after p q r line next next_is there at lt is linked same grown =
        subst (λ n. StandsAt n p r) (sym next_is)
        (goes_to place (slice_index next place) p q r line at lt is ((linked place k line (omega arith) lt (there.own line lt)).skips first) same grown)

    pub ends : (place : ℕ) (p q : P) → StandsAt place p q → length lines ≤ place → HasServed reads handler (phase hosts lanes first lines) k p q
    ends place p q at over =
        let none : tasks hosts lanes k (first + place) (drop place lines) ≡ [] = ap (λ xs. tasks hosts lanes k (first + place) xs) (drop_all place lines over) in
        record { same = at.same; grown = subst (λ left. GrownTo (tasks hosts lanes k first lines) left (reads.calls p) (reads.calls q)) none at.grown }

    pub ended : (place : ℕ) (p q : P) → StandsAt place p q → HasServedSome reads handler (phase hosts lanes first lines) k p q
    ended place p q at = record { same = at.same; left = tasks hosts lanes k (first + place) (drop place lines); grown = at.grown }

    pub stops : (place : ℕ) (p q r : P) → StandsAt place p q → KeepsPass reads handler q r → reads.calls r ≡ reads.calls q → HasServedSome reads handler (phase hosts lanes first lines) k p r
    stops place p q r at same kept = record {
      same = same_pass p q r at.same same;
      left = tasks hosts lanes k (first + place) (drop place lines);
      grown = subst (λ cs. GrownTo (tasks hosts lanes k first lines) (tasks hosts lanes k (first + place) (drop place lines)) (reads.calls p) cs) (sym kept) at.grown;
    }
