-- What the marks of granules say of their states.
use Rattle.std.proofs.Common.{cond, [], ◌∷◌, ◌≡◌, ℕ, zero, suc, ◌∷◌, ◌+◌, ◌-◌, ◌<◌, ◌≤◌, Bool, false, not, List, ◌++◌, length, length-drop, map, get_or, take, drop, replicate, refl, ap, sym, subst, ◌∙◌, arith}
use Rattle.dcd_base.specs.declared.media.Run.{Run}
use Rattle.std.proofs.lemmas.{Bool.false_from_ne_true, List.drop-map, List.get_or-drop, List.get_or-map, List.get_or-take, List.length-take-le, List.map-append, List.take-map, List.Sums.sum_by-cons}
use Rattle.std.specs.Prelude.{count_by}
use Rattle.memchr.specs.Find.{Nowhere, Passes, is_byte}
use Rattle.granule_map.specs.StateLists.{AreMarked, is_dirty_at, is_dirty_state, is_free_at, is_free_state, mark_of, part_of, with_run}
use Rattle.granule_map.specs.{Stretches.IsNext, Stretches.fails, declared.states.GranuleState.GranuleState}
use Rattle.granule_map.specs.declared.states.GranuleState.TheVariants.{Free, Reserved, Held, Tagged, Dirty}

pub part_length : (xs : List ℕ) (from end : ℕ) → from ≤ end → end ≤ length xs → length (take (end - from) (drop from xs)) ≡ end - from
part_length xs from end ordered within = length-take-le (end - from) (drop from xs) (omega (arith, length-drop from xs, ordered, within))

-- what is found in a part of a list, as a place of the whole list
module _ (t : ℕ → Bool) (xs part : List ℕ) (from end : ℕ) (part_is : part ≡ take (end - from) (drop from xs)) (ordered : from ≤ end) where
  at_part : (j : ℕ) → from ≤ j → j < end → get_or part (j - from) 0 ≡ get_or xs j 0
  at_part j low high =
      let place : from + (j - from) ≡ j = omega (arith, low) in
      ap (λ (ys : List ℕ). get_or ys (j - from) 0) part_is ∙ get_or-take (end - from) (drop from xs) (j - from) 0 (omega (arith, low, high))
      ∙ get_or-drop from xs (j - from) 0 ∙ ap (λ m. get_or xs m 0) place

  fails_before : (k : ℕ) → Nowhere (Passes t part) 0 k → (j : ℕ) → from ≤ j → j < end → j - from < k → t (get_or xs j 0) ≡ false
  fails_before k none j low high before =
      sym (ap t (at_part j low high)) ∙ false_from_ne_true (t (get_or part (j - from) 0)) (λ its. none (j - from) (omega arith) before its)

  pub found_in : (place : ℕ) → from + place < end → Nowhere (Passes t part) 0 place → Passes t part place → IsNext (λ k. t (get_or xs k 0)) from end (from + place)
  found_in place below none here =
      let back : from + place - from ≡ place = omega arith in
      record {
        from_below = omega arith;
        within = omega (arith, below);
        none_before = λ j low high. fails_before place none j low (omega (arith, high, below)) (omega (arith, low, high));
        passes = λ _. sym (ap t (at_part (from + place) (omega arith) below)) ∙ ap (λ m. t (get_or part m 0)) back ∙ here;
      }

  pub found_nowhere : (many : ℕ) → many ≡ end - from → Nowhere (Passes t part) 0 many → IsNext (λ k. t (get_or xs k 0)) from end end
  found_nowhere many all none = record {
    from_below = ordered;
    within = omega arith;
    none_before = λ j low high. fails_before many none j low high (omega (arith, low, high, all));
    passes = λ past. absurd (omega (arith, past));
  }

-- tests that agree below a limit have the same next number
next_same : (p q : ℕ → Bool) (from end k : ℕ) → ((j : ℕ) → j < end → p j ≡ q j) → IsNext p from end k → IsNext q from end k
next_same p q from end k same next = record {
  from_below = next.from_below;
  within = next.within;
  none_before = λ j low high. sym (same j (omega (arith, high, next.within))) ∙ next.none_before j low high;
  passes = λ below. sym (same k below) ∙ next.passes below;
}

free_mark : (s : GranuleState) → is_byte 0 (mark_of s) ≡ is_free_state s
free_mark Free = refl
free_mark (Reserved h) = refl
free_mark (Held h) = refl
free_mark (Tagged t) = refl
free_mark Dirty = refl

dirty_mark : (s : GranuleState) → is_byte 4 (mark_of s) ≡ is_dirty_state s
dirty_mark Free = refl
dirty_mark (Reserved h) = refl
dirty_mark (Held h) = refl
dirty_mark (Tagged t) = refl
dirty_mark Dirty = refl

module _ (states seen : List GranuleState) (marks read : List ℕ) (kept : AreMarked states marks) (same : states ≡ seen) (read_is : read ≡ marks) (from end k : ℕ) (within : end ≤ length seen) where
  mark_at : (d : GranuleState) (g : ℕ) → g < end → get_or read g 0 ≡ mark_of (get_or seen g d)
  mark_at d g below =
      ap (λ (ms : List ℕ). get_or ms g 0) (read_is ∙ kept.marked)
      ∙ get_or-map mark_of states g d 0 (subst (λ (ss : List GranuleState). g < length ss) (sym same) (omega (arith, below, within)))
      ∙ ap (λ (ss : List GranuleState). mark_of (get_or ss g d)) same

  pub free_next : IsNext (λ j. is_byte 0 (get_or read j 0)) from end k → IsNext (is_free_at seen) from end k
  free_next next = next_same (λ j. is_byte 0 (get_or read j 0)) (is_free_at seen) from end k (λ j high. ap (is_byte 0) (mark_at Dirty j high) ∙ free_mark (get_or seen j Dirty)) next

  pub taken_next : IsNext (fails (λ j. is_byte 0 (get_or read j 0))) from end k → IsNext (fails (is_free_at seen)) from end k
  taken_next next = next_same (fails (λ j. is_byte 0 (get_or read j 0))) (fails (is_free_at seen)) from end k (λ j high. ap not (ap (is_byte 0) (mark_at Dirty j high) ∙ free_mark (get_or seen j Dirty))) next

  pub dirty_next : IsNext (λ j. is_byte 4 (get_or read j 0)) from end k → IsNext (is_dirty_at seen) from end k
  dirty_next next = next_same (λ j. is_byte 4 (get_or read j 0)) (is_dirty_at seen) from end k (λ j high. ap (is_byte 4) (mark_at Free j high) ∙ dirty_mark (get_or seen j Free)) next

  pub clean_next : IsNext (fails (λ j. is_byte 4 (get_or read j 0))) from end k → IsNext (fails (is_dirty_at seen)) from end k
  clean_next next = next_same (fails (λ j. is_byte 4 (get_or read j 0))) (fails (is_dirty_at seen)) from end k (λ j high. ap not (ap (is_byte 4) (mark_at Free j high) ∙ dirty_mark (get_or seen j Free))) next

-- marks of a list that has one state throughout, and of one with a new state in a run
pub marks_of_one : (n : ℕ) (s : GranuleState) → replicate n (mark_of s) ≡ map mark_of (replicate n s)
marks_of_one zero s = refl
marks_of_one (suc n) s = ap (λ (ms : List ℕ). mark_of s ∷ ms) (marks_of_one n s)

pub marks_with_run : (states : List GranuleState) (run : Run) (s : GranuleState)
    → take run.first (map mark_of states) ++ replicate run.count (mark_of s) ++ drop (run.first + run.count) (map mark_of states) ≡ map mark_of (with_run states run s)
marks_with_run states run s =
    let front = take run.first states in
    let middle = replicate run.count s in
    let behind = drop (run.first + run.count) states in
    sym (map-append mark_of (take run.first states ++ replicate run.count s) (drop (run.first + run.count) states)
    ∙ ap (λ (ms : List ℕ). ms ++ map mark_of behind) (map-append mark_of (take run.first states) (replicate run.count s)
    ∙ ap (λ (ms : List ℕ). ms ++ map mark_of middle) (sym (take-map mark_of run.first states))
    ∙ ap (λ (ms : List ℕ). take run.first (map mark_of states) ++ ms) (sym (marks_of_one run.count s)))
    ∙ ap (λ (ms : List ℕ). take run.first (map mark_of states) ++ replicate run.count (mark_of s) ++ ms) (sym (drop-map mark_of (run.first + run.count) states)))

-- what a change of a run leaves of both
pub still_marked : (states new : List GranuleState) (marks new_marks : List ℕ) (run : Run) (s : GranuleState) → AreMarked states marks → new ≡ with_run states run s → length new ≡ length states
    → new_marks ≡ take run.first marks ++ replicate run.count (mark_of s) ++ drop (run.first + run.count) marks → AreMarked new new_marks
still_marked states new marks new_marks run s kept new_is long marks_are = record {
  few = omega (arith, long, kept.few);
  marked = marks_are ∙ ap (λ (ms : List ℕ). take run.first ms ++ replicate run.count (mark_of s) ++ drop (run.first + run.count) ms) kept.marked
      ∙ marks_with_run states run s ∙ ap (map mark_of) (sym new_is);
}

-- a count of marks is one of states
module _ (t : ℕ → Bool) (q : GranuleState → Bool) (agree : (s : GranuleState) → t (mark_of s) ≡ q s) where
  counts_agree : (states : List GranuleState) → count_by t (map mark_of states) ≡ count_by q states
  counts_agree [] = refl
  counts_agree (s ∷ states) =
      sum_by-cons (λ m. cond (t m) 1 0) (mark_of s) (map mark_of states)
      ∙ ap (λ b. cond b 1 0 + count_by t (map mark_of states)) (agree s) ∙ ap (λ n. cond (q s) 1 0 + n) (counts_agree states)
      ∙ sym (sum_by-cons (λ x. cond (q x) 1 0) s states)

  counted_in : (states : List GranuleState) (run : Run) → count_by t (take run.count (drop run.first (map mark_of states))) ≡ count_by q (part_of states run)
  counted_in states run =
      ap (λ (ms : List ℕ). count_by t (take run.count ms)) (drop-map mark_of run.first states)
      ∙ ap (count_by t) (take-map mark_of run.count (drop run.first states)) ∙ counts_agree (part_of states run)

module _ (states seen : List GranuleState) (marks read : List ℕ) (kept : AreMarked states marks) (same : states ≡ seen) (read_is : read ≡ marks) (run : Run) where
  pub free_counted : count_by (is_byte 0) (take run.count (drop run.first read)) ≡ count_by is_free_state (part_of seen run)
  free_counted =
      ap (λ (ms : List ℕ). count_by (is_byte 0) (take run.count (drop run.first ms))) (read_is ∙ kept.marked) ∙ counted_in (is_byte 0) is_free_state free_mark states run
      ∙ ap (λ (ss : List GranuleState). count_by is_free_state (part_of ss run)) same

  pub dirty_counted : count_by (is_byte 4) (take run.count (drop run.first read)) ≡ count_by is_dirty_state (part_of seen run)
  dirty_counted =
      ap (λ (ms : List ℕ). count_by (is_byte 4) (take run.count (drop run.first ms))) (read_is ∙ kept.marked) ∙ counted_in (is_byte 4) is_dirty_state dirty_mark states run
      ∙ ap (λ (ss : List GranuleState). count_by is_dirty_state (part_of ss run)) same
