-- Each kind of step keeps the counts of stamps at most the number of all entries, which is small.
use Rattle.std.proofs.Common.{◌≡◌, ℕ, zero, suc, ◌+◌, ◌*◌, ◌^◌, ◌<◌, ◌≤◌, false, List, [], ◌∷◌, ◌++◌, length, set, sym, refl, ap, ◌∙◌, subst, ⊎_elim, arith}
use Rattle.std.proofs.lemmas.Bool.Decides.{nat_tests}
use mathlib.Core.Logic.{dite}
use mathlib.Core.Option.{some}
use native.Mathlib.Decide.{dec_lt}
use lib.ListN.{get_elem?}
use Rattle.journal_core.specs.declared.entries.Entry.{Entry}
use Rattle.ruled_cells.proofs.{Places.at_push, RuleSteps.each_set, Weights.from, Weights.below, Weights.own-same, Weights.total-add}
use Rattle.ruled_cells.specs.{Booking.weigh, Booking.own, Booking.weight_one, Booking.weigh_all, Booking.entries_in, Booking.total, Booking.Books, Booking.Counted, Ruling.Names}
use Rattle.ruled_cells.specs.{Telling.next_view, Telling.joint_view, Telling.spent_view, declared.about.SeatView.SeatView, declared.cell_value.CellValue.CellValue}
use Rattle.ruled_cells.specs.declared.cell_value.CellValue.TheVariants.{Rest}

split_at : (m : ℕ) (e : Entry) → weight_one e ≡ below m e + from m e
split_at m e = grind (arith, nat_tests)

split_more : (m : ℕ) (e : Entry) → below (suc m) e ≡ below m e + own m weight_one e
split_more m e = grind (arith, nat_tests)

nothing : (e : Entry) → below 0 e ≡ 0
nothing e = grind (arith, nat_tests)

from_below : (m : ℕ) (e : Entry) → e.pass < m → from m e ≡ 0
from_below m e lt = grind (arith, nat_tests)

zero_weigh : (h : Entry → ℕ) → ((e : Entry) → h e ≡ 0) → (es : List Entry) → weigh h es ≡ 0
zero_weigh h z [] = refl
zero_weigh h z (e ∷ es) = let a = z e in let b = zero_weigh h z es in omega (arith, a, b)

none_from : (m : ℕ) (es : List Entry) → ((j : ℕ) → m ≤ j → weigh (own j weight_one) es ≡ 0) → weigh (from m) es ≡ 0
none_from m [] none = refl
none_from m (e ∷ es) none =
    let rest : weigh (from m) es ≡ 0 = none_from m es (λ j le. let q = none j le in omega (arith, q)) in
    dite (dec_lt e.pass m) (λ (lt : e.pass < m). let a = from_below m e lt in omega (arith, a, rest))
    (λ ge. absurd (let q = none e.pass (omega (arith, ge)) in let a = own-same e.pass weight_one e refl in omega (arith, q, a)))

module _ {F S : Type 0} (w : Names F S) where
  abbrev Vals : Type 0
  Vals = List (CellValue F S)

  zero_all : (h : Entry → ℕ) → ((e : Entry) → h e ≡ 0) → (vals : Vals) → weigh_all w h vals ≡ 0
  zero_all h z [] = refl
  zero_all h z (x ∷ vals) = let a = zero_weigh h z (entries_in w x) in let b = zero_all h z vals in omega (arith, a, b)

  none_all : (m : ℕ) (vals : Vals) → ((j : ℕ) → m ≤ j → weigh_all w (own j weight_one) vals ≡ 0) → weigh_all w (from m) vals ≡ 0
  none_all m [] none = refl
  none_all m (x ∷ vals) none =
      let a = none_from m (entries_in w x) (λ j le. let q = none j le in omega (arith, q)) in
      let b = none_all m vals (λ j le. let q = none j le in omega (arith, q)) in omega (arith, a, b)

  few_below : (log : List Entry) (vals : Vals) → ((j : ℕ) → total w (own j weight_one) log vals ≤ 2 ^ 32) → (m : ℕ) → total w (below m) log vals ≤ m * 2 ^ 32
  few_below log vals few zero = let a = zero_weigh (below 0) nothing log in let b = zero_all (below 0) nothing vals in omega (arith, a, b)
  few_below log vals few (suc m) = let a = total-add w (below m) (own m weight_one) (below (suc m)) (split_more m) log vals in let b = few_below log vals few m in let c = few m in omega (arith, a, b, c)

  -- there are at most 2^32 entries for each seat
  pub few_in_all : (log : List Entry) (vals : Vals) (views : List SeatView) → Books w log vals views → length views < 2 ^ 32 → total w weight_one log vals + 1 < 2 ^ 64
  few_in_all log vals views b crowd =
      let m : ℕ = length views in
      let a = total-add w (below m) (from m) weight_one (split_at m) log vals in
      let c = few_below log vals b.few m in
      let none : (j : ℕ) → m ≤ j → total w (own j weight_one) log vals ≡ 0 = λ j le. sym (b.later j le weight_one) in
      let d = none_from m log (λ j le. let q = none j le in omega (arith, q)) in
      let e = none_all m vals (λ j le. let q = none j le in omega (arith, q)) in
      omega (arith, a, c, d, e, crowd)

  module _ (log : List Entry) (vals : Vals) (views : List SeatView) (c : Counted w log vals views) where
    -- what a new view has seen is low
    abbrev Low : List Entry → Vals → ℕ → SeatView → Type 0
    Low log' vals' j u = u.spent ≡ false → u.seen.count ≤ total w weight_one log' vals'

    seens_set : (log' : List Entry) (vals' : Vals) → total w weight_one log vals ≤ total w weight_one log' vals' → (id : ℕ) (v' : SeatView) → Low log' vals' id v' → (j : ℕ) (u : SeatView) → get_elem? (set views id v') j ≡ some u → Low log' vals' j u
    seens_set log' vals' more id v' low = each_set (Low log' vals') views id v' low (λ j u _ e q. let a = c.seens j u e q in omega (arith, a, more))

    -- the values stay
    pub counted_views : (log' : List Entry) → total w weight_one log vals ≤ total w weight_one log' vals → (id : ℕ) (v' : SeatView) → (v'.spent ≡ false → v'.seen.count ≤ total w weight_one log' vals) → Counted w log' vals (set views id v')
    counted_views log' more id v' low = record { clocks = λ k s e. let a = c.clocks k s e in omega (arith, a, more); seens = seens_set log' vals more id v' low }

    -- one value changes
    pub counted_put : (k id : ℕ) (y : CellValue F S) (v' : SeatView) → total w weight_one log vals ≤ total w weight_one log (set vals k y) → ((s : S) → y ≡ Rest s → (w.clock s).count ≤ total w weight_one log (set vals k y)) → (v'.spent ≡ false → v'.seen.count ≤ total w weight_one log (set vals k y))
        → Counted w log (set vals k y) (set views id v')
    counted_put k id y v' more clock low = record {
      clocks = λ j s e. each_set (λ (i : ℕ) (x : CellValue F S). (s : S) → x ≡ Rest s → (w.clock s).count ≤ total w weight_one log (set vals k y)) vals k y clock
          (λ i x _ f s q. let a = c.clocks i s (f ∙ ap some q) in omega (arith, a, more)) j (Rest s) e s refl;
      seens = seens_set log (set vals k y) more id v' low;
    }

    pub counted_admit : (v : SeatView) → Counted w log vals (views ++ next_view (length views) v ∷ [])
    counted_admit v = record {
      clocks = c.clocks;
      seens = λ j u e q. ⊎_elim (λ (p : get_elem? views j ≡ some u). c.seens j u p q)
          (λ (p : (next_view (length views) v ≡ u) × (j ≡ length views)). subst (λ (z : SeatView). z.seen.count ≤ total w weight_one log vals) p.0 (omega arith)) (at_push views (next_view (length views) v) u j e);
    }

    pub counted_merge : (id other : ℕ) (v u : SeatView) → get_elem? views id ≡ some v → Counted w log vals (set (set views id (joint_view v u)) other spent_view)
    counted_merge id other v u at = record {
      clocks = c.clocks;
      seens = each_set (Low log vals) (set views id (joint_view v u)) other spent_view (λ _. omega arith)
          (λ j y _ e. each_set (Low log vals) views id (joint_view v u) (λ q. c.seens id v at q) (λ j y _ e. c.seens j y e) j y e);
    }
