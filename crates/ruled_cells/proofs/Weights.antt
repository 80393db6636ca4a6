-- Entries, weighed.
use Rattle.std.proofs.Common.{◌≡◌, ◌≢◌, ℕ, zero, suc, ◌+◌, cond, List, [], ◌∷◌, ◌++◌, length, set, sym, refl, ap, ◌∙◌, arith, eq-eqb, ne_eqb}
use mathlib.Core.Option.{some, some-injective, some-ne-none}
use lib.ListN.{get_elem?}
use Rattle.journal_core.specs.declared.entries.Entry.{Entry}
use Rattle.ruled_cells.specs.{declared.cell_value.CellValue.CellValue, Ruling.Names, Booking.weigh, Booking.own, Booking.weight_one, Booking.entries_in, Booking.weigh_all, Booking.total}

pub weigh-push : (h : Entry → ℕ) (es : List Entry) (e : Entry) → weigh h (es ++ e ∷ []) ≡ weigh h es + h e
weigh-push h [] e = omega arith
weigh-push h (x ∷ es) e = let q = weigh-push h es e in omega (arith, q)

pub weigh-one : (es : List Entry) → weigh weight_one es ≡ length es
weigh-one [] = refl
weigh-one (e ∷ es) = let q = weigh-one es in omega (arith, q)

pub weigh-add : (f g h : Entry → ℕ) → ((e : Entry) → h e ≡ f e + g e) → (es : List Entry) → weigh h es ≡ weigh f es + weigh g es
weigh-add f g h split [] = refl
weigh-add f g h split (e ∷ es) = let q = weigh-add f g h split es in let p = split e in omega (arith, p, q)

pub own-same : (j : ℕ) (h : Entry → ℕ) (e : Entry) → e.pass ≡ j → own j h e ≡ h e
own-same j h e p = ap (λ b. cond b (h e) 0) (eq-eqb e.pass j p)

pub own-other : (j : ℕ) (h : Entry → ℕ) (e : Entry) → e.pass ≢ j → own j h e ≡ 0
own-other j h e p = ap (λ b. cond b (h e) 0) (ne_eqb e.pass j p)

-- entries of the seats from m on, and of those below it
abbrev pub from : ℕ → Entry → ℕ
from m e = cond (Rattle.std.specs.Prelude.nat_lt e.pass m) 0 1

abbrev pub below : ℕ → Entry → ℕ
below m e = cond (Rattle.std.specs.Prelude.nat_lt e.pass m) 1 0

module _ {F S : Type 0} (w : Names F S) where
  abbrev Vals : Type 0
  Vals = List (CellValue F S)

  pub weigh_all-set : (h : Entry → ℕ) (vals : Vals) (k : ℕ) (x y : CellValue F S) → get_elem? vals k ≡ some x → weigh_all w h (set vals k y) + weigh h (entries_in w x) ≡ weigh_all w h vals + weigh h (entries_in w y)
  weigh_all-set h [] k x y e = absurd (some-ne-none x (sym e))
  weigh_all-set h (z ∷ vals) zero x y e = let q : weigh h (entries_in w z) ≡ weigh h (entries_in w x) = ap (λ (t : CellValue F S). weigh h (entries_in w t)) (some-injective z x e) in omega (arith, q)
  weigh_all-set h (z ∷ vals) (suc k) x y e = let q = weigh_all-set h vals k x y e in omega (arith, q)

  pub weigh_all-add : (f g h : Entry → ℕ) → ((e : Entry) → h e ≡ f e + g e) → (vals : Vals) → weigh_all w h vals ≡ weigh_all w f vals + weigh_all w g vals
  weigh_all-add f g h split [] = refl
  weigh_all-add f g h split (x ∷ vals) = let p = weigh-add f g h split (entries_in w x) in let q = weigh_all-add f g h split vals in omega (arith, p, q)

  pub total-add : (f g h : Entry → ℕ) → ((e : Entry) → h e ≡ f e + g e) → (log : List Entry) (vals : Vals) → total w h log vals ≡ total w f log vals + total w g log vals
  total-add f g h split log vals = let p = weigh-add f g h split log in let q = weigh_all-add f g h split vals in omega (arith, p, q)

  -- what the steps do to the weights
  abbrev pub Keeps : List Entry → Vals → List Entry → Vals → Type 0
  Keeps log vals log' vals' = (h : Entry → ℕ) → total w h log' vals' ≡ total w h log vals

  abbrev pub Gains : Entry → List Entry → Vals → List Entry → Vals → Type 0
  Gains e log vals log' vals' = (h : Entry → ℕ) → total w h log' vals' ≡ total w h log vals + h e

  pub keeps_same : (log : List Entry) (vals : Vals) → Keeps log vals log vals
  keeps_same log vals h = refl

  pub keeps_put : (log : List Entry) (vals : Vals) (k : ℕ) (x y : CellValue F S) → get_elem? vals k ≡ some x → entries_in w y ≡ entries_in w x → Keeps log vals log (set vals k y)
  keeps_put log vals k x y e same h = let q = weigh_all-set h vals k x y e in let p = ap (weigh h) same in omega (arith, q, p)

  pub gains_put : (log : List Entry) (vals : Vals) (k : ℕ) (x y : CellValue F S) (e : Entry) → get_elem? vals k ≡ some x → entries_in w y ≡ entries_in w x ++ e ∷ [] → Gains e log vals log (set vals k y)
  gains_put log vals k x y e at longer h = let q = weigh_all-set h vals k x y at in let p = ap (weigh h) longer ∙ weigh-push h (entries_in w x) e in omega (arith, q, p)

  pub gains_noted : (log : List Entry) (vals : Vals) (e : Entry) → Gains e log vals (log ++ e ∷ []) vals
  gains_noted log vals e h = let p = weigh-push h log e in omega (arith, p)
