-- The order of stamps, and what is pending.
use Rattle.std.proofs.Common.{◌≡◌, ◌≢◌, ◌⊎◌, ℕ, ◌<◌, ◌≤◌, Bool, true, false, ◌&&◌, ◌||◌, not, List, [], ◌∷◌, ◌++◌, length, sym, refl, ap, ◌∙◌, subst, ⊎_elim, inl, inr, arith, Option, Some, None, eq-eqb, ne_eqb}
use mathlib.Core.Option.{some}
use native.Mathlib.Decide.{ℕ_discrete, dec_lt}
use lib.ListN.{get_elem?}
use Rattle.dcd_base.specs.declared.steps.Stamp.{Stamp}
use Rattle.journal_core.specs.declared.entries.Entry.{Entry}
use Rattle.ruled_cells.{specs.Stamps.Below, specs.Stamps.Rise, specs.Stamps.has_index, specs.Stamps.pending, proofs.Places.at_below, proofs.Places.at_push}

pub never : {A : Type 0} (b : Bool) → b ≡ true → b ≡ false → A
never b t f = absurd (let e : true ≡ false = sym t ∙ f in (cc))

-- ---- the order

by_numbers : (a b c d : ℕ) → (a < c) ⊎ ((a ≡ c) × (b < d)) → (a ≤ c)
by_numbers a b c d (inl h) = omega arith
by_numbers a b c d (inr h) = let e = h.0 in omega arith

pub below_number : (s t : Stamp) → Below s t → s.number ≤ t.number
below_number s t h = by_numbers s.number s.count t.number t.count h

pub below_trans : (s t u : Stamp) → Below s t → Below t u → Below s u
below_trans s t u (inl a) (inl b) = inl (omega arith)
below_trans s t u (inl a) (inr b) = let e = b.0 in inl (omega arith)
below_trans s t u (inr a) (inl b) = let e = a.0 in inl (omega arith)
below_trans s t u (inr a) (inr b) = let p = a.1 in let q = b.1 in inr (a.0 ∙ b.0, omega arith)

pub below_itself : (s t : Stamp) → s ≡ t → Below s t → ⊥
below_itself s t e (inl a) = let n : s.number ≡ t.number = ap (λ z. z.number) e in omega arith
below_itself s t e (inr a) = let n : s.count ≡ t.count = ap (λ z. z.count) e in let p = a.1 in omega arith

apart : (a b : ℕ) → Dec (a < b) → (a < b) ⊎ (b ≤ a)
apart a b (yes h) = inl h
apart a b (Dec.no h) = inr (omega (arith, h))

-- what is not above c is below what c is below
under : (e c f : Stamp) → ¬ Below c e → Dec (e.number < c.number) → Dec (e.number ≡ c.number) → Below c f → Below e f
under e c f h (yes lt) d b = let n = below_number c f b in inl (omega arith)
under e c f h (Dec.no ge) (yes same) (inl b) = inl (omega arith)
under e c f h (Dec.no ge) (yes same) (inr b) = ⊎_elim (λ (lt : c.count < e.count). absurd (h (inr (sym same, lt)))) (λ (le : e.count ≤ c.count). let q = b.1 in inr (same ∙ b.0, omega arith)) (apart c.count e.count (dec_lt c.count e.count))
under e c f h (Dec.no ge) (Dec.no other) b = absurd (h (inl (omega (arith, ge, other))))

pub below_after : (e c f : Stamp) → ¬ Below c e → Below c f → Below e f
below_after e c f h b = under e c f h (dec_lt e.number c.number) (ℕ_discrete e.number c.number) b

-- the stamps rise once more
pub rise_push : (entries : List Entry) (e : Entry) → Rise entries → ((k : ℕ) (f : Entry) → get_elem? entries k ≡ some f → Below f.stamp e.stamp) → Rise (entries ++ e ∷ [])
rise_push entries e rise above i k f g lt p q = ⊎_elim
    (λ (q' : get_elem? entries k ≡ some g). ⊎_elim (λ (p' : get_elem? entries i ≡ some f). rise i k f g lt p' q')
    (λ (p' : (e ≡ f) × (i ≡ length entries)). absurd (let b = at_below entries k g q' in let z = p'.1 in omega (arith, lt, b, z))) (at_push entries e f i p))
    (λ (q' : (e ≡ g) × (k ≡ length entries)). ⊎_elim (λ (p' : get_elem? entries i ≡ some f). subst (λ (z : Entry). Below f.stamp z.stamp) q'.0 (above i f p'))
    (λ (p' : (e ≡ f) × (i ≡ length entries)). absurd (let y = q'.1 in let z = p'.1 in omega (arith, lt, y, z))) (at_push entries e f i p))
    (at_push entries e g k q)

-- ---- what is pending

pub is_in_more : (k j : ℕ) (changed : List ℕ) → j ≢ k → has_index j (k ∷ changed) ≡ has_index j changed
is_in_more k j changed ne = ap (λ b. b || has_index j changed) (ne_eqb j k ne)

pub pending_more : (touches : ℕ → Entry → Bool) (entry : Option Entry) (changed : List ℕ) (k j : ℕ) → j ≢ k → pending touches entry (k ∷ changed) j ≡ pending touches entry changed j
pending_more touches None changed k j ne = refl
pending_more touches (Some e) changed k j ne = ap (λ b. touches j e && not b) (is_in_more k j changed ne)

and_false : (b : Bool) → b && false ≡ false
and_false true = refl
and_false false = refl

pub pending_done : (touches : ℕ → Entry → Bool) (entry : Option Entry) (changed : List ℕ) (k : ℕ) → pending touches entry (k ∷ changed) k ≡ false
pending_done touches None changed k = refl
pending_done touches (Some e) changed k = ap (λ b. touches k e && not (b || has_index k changed)) (eq-eqb k k refl) ∙ and_false (touches k e)

and_true : (b : Bool) → b && true ≡ b
and_true true = refl
and_true false = refl

pub pending_new : (touches : ℕ → Entry → Bool) (e : Entry) (k : ℕ) → pending touches (Some e) [] k ≡ touches k e
pending_new touches e k = and_true (touches k e)

-- where something is pending, an entry was noted
pub pending_some : (touches : ℕ → Entry → Bool) (entry : Option Entry) (changed : List ℕ) (k : ℕ) → pending touches entry changed k ≡ true → (e : Entry) × (entry ≡ Some e)
pending_some touches None changed k p = absurd (let q : false ≡ true = p in (cc))
pending_some touches (Some e) changed k p = (e, refl)
