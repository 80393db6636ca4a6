-- Taking in seats, and taking values out of their slots.
use Rattle.std.proofs.Common.{◌≡◌, ◌≢◌, ◌⊎◌, ℕ, zero, suc, ◌+◌, ◌<◌, ◌≤◌, Bool, true, false, List, [], ◌∷◌, ◌++◌, map, length, get_or, set, sym, refl, ap, ◌∙◌, subst, ⊎_elim, inl, inr, arith, Option, Some, None, get_or-set_same, get_or-set_other}
use Rattle.std.proofs.lemmas.List.{set_past, get_or_past}
use mathlib.Core.Logic.{dite}
use mathlib.Core.Option.{some, some-injective, some-ne-none}
use native.Mathlib.Decide.{ℕ_discrete, dec_lt}
use lib.ListN.{get_elem?, length-map}
use Rattle.atomic_table.proofs.Lists.{at_longer, at_last}
use Rattle.journal_core.specs.declared.entries.Entry.{Entry}
use Rattle.ruled_cells.proofs.AtRest.{rests, accounts_own, accounts_kept, no_others}
use Rattle.ruled_cells.proofs.Places.{at_below, at_there, at_same, at_push, map_at, same_somes}
use Rattle.ruled_cells.specs.{Booking.Fits, Booking.Whole, Calls.IsOf, Calls.AreAll, Making.IsGathered, Resting.IsAtRest, Resting.Accounts, Ruling.Names}
use Rattle.ruled_cells.specs.{Seats.IsSameSeat, Seats.seat_number, Seats.seat_view, Telling.joint_view, Telling.values, Turning.NoTurn, Turning.Seated, Turning.IsIn, Turning.Settled, Turning.joint}
use Rattle.ruled_cells.specs.declared.{about.About.About, about.SeatView.SeatView, cell_value.CellValue.CellValue, cell_value.CellValue.TheVariants.First, cell_value.CellValue.TheVariants.Rest}
use Rattle.ruled_cells.specs.declared.{cells.Cells.Cells, seat.Seat.Seat}

abbrev tail_of : {A : Type 0} → List A → List A
tail_of [] = []
tail_of (x ∷ xs) = xs

put_false : (filled : List Bool) (k : ℕ) → get_or (set filled k false) k false ≡ false
put_false filled k = dite (dec_lt k (length filled)) (λ (lt : k < length filled). get_or-set_same filled k false false lt)
    (λ ge. let le : length filled ≤ k = omega (arith, ge) in ap (λ (l : List Bool). get_or l k false) (set_past filled k false le) ∙ get_or_past filled k false le)

pub taken_next : (filled : List Bool) (i : ℕ) → ((k : ℕ) → k ≤ i → get_or filled k false ≡ false) → (k : ℕ) → k ≤ i + 1 → get_or (set filled (i + 1) false) k false ≡ false
taken_next filled i taken k le = dite (ℕ_discrete k (i + 1))
    (λ (q : k ≡ i + 1). subst (λ (z : ℕ). get_or (set filled (i + 1) false) z false ≡ false) (sym q) (put_false filled (i + 1)))
    (λ ne. get_or-set_other filled (i + 1) k false false ne ∙ taken k (omega (arith, le, ne)))

pub left_next : (filled : List Bool) (i len : ℕ) → ((k : ℕ) → i < k → k < len → get_or filled k false ≡ true) → (k : ℕ) → i + 1 < k → k < len → get_or (set filled (i + 1) false) k false ≡ true
left_next filled i len left k lt up = get_or-set_other filled (i + 1) k false false (λ q. omega (arith, q, lt)) ∙ left k (omega (arith, lt)) up

-- all but the first are of the row
row_of_list : {F S : Type 0} (vals : List (CellValue F S)) → ((k : ℕ) (x : CellValue F S) → get_elem? vals k ≡ some x → (s : S) × (x ≡ Rest s)) → (row : List S) × (vals ≡ map (λ y. Rest y) row)
row_of_list [] all = ([], refl)
row_of_list (x ∷ xs) all = let o = all 0 x refl in let r = row_of_list xs (λ k y e. all (suc k) y e) in (o.0 ∷ r.0, λ i. o.1 i ∷ r.1 i)

row_of_vals : {F S : Type 0} (vals : List (CellValue F S)) (first : F) → get_elem? vals 0 ≡ some (First first) → ((k : ℕ) (x : CellValue F S) → 0 < k → get_elem? vals k ≡ some x → (s : S) × (x ≡ Rest s)) → (row : List S) × (vals ≡ values first row)
row_of_vals [] first chief rest = absurd (some-ne-none (First first) (sym chief))
row_of_vals (x ∷ xs) first chief rest = let r = row_of_list xs (λ k y e. rest (suc k) y (omega arith) e) in (r.0, λ i. some-injective x (First first) chief i ∷ r.1 i)

module _ {A : Type 0} where
  -- a list whose last item was taken off
  pub in_front : (all front : List A) (a : A) → all ≡ front ++ a ∷ [] → (k : ℕ) (b : A) → get_elem? front k ≡ some b → get_elem? all k ≡ some b
  in_front all front a is k b e = ap (λ (l : List A). get_elem? l k) is ∙ at_longer front (a ∷ []) k b e

  pub at_end : (all front : List A) (a : A) → all ≡ front ++ a ∷ [] → get_elem? all (length front) ≡ some a
  at_end all front a is = ap (λ (l : List A). get_elem? l (length front)) is ∙ at_last front a (length front) refl

  pub in_either : (all front : List A) (a : A) → all ≡ front ++ a ∷ [] → (k : ℕ) (b : A) → get_elem? all k ≡ some b → (k < length front) ⊎ (a ≡ b)
  in_either all front a is k b e = ⊎_elim (λ (p : get_elem? front k ≡ some b). inl (at_below front k b p)) (λ (p : (a ≡ b) × (k ≡ length front)). inr p.0) (at_push front a b k (ap (λ (l : List A). get_elem? l k) (sym is) ∙ e))

  pub shorter : (all front : List A) (a : A) (k : ℕ) → all ≡ front ++ a ∷ [] → k < length all → (k < length front) ⊎ (k ≡ length front)
  shorter all front a k is lt = let b = at_there all k lt in ⊎_elim (λ (p : get_elem? front k ≡ some b.0). inl (at_below front k b.0 p)) (λ (p : (a ≡ b.0) × (k ≡ length front)). inr p.1) (at_push front a b.0 k (ap (λ (l : List A). get_elem? l k) (sym is) ∙ b.1))

module _ {F S : Type 0} where
  pub gathered_itself : (m s : Seat F S) → m ≡ s → IsGathered m.token.me (seat_number s) (seat_view s)
  gathered_itself m s e = subst (λ (z : Seat F S). IsGathered m.token.me (seat_number z) (seat_view z)) e (inl (m.resting.0, refl, refl))

  pub gathered_more : (m e n : Seated (CellValue F S) SeatView) (number : ℕ) (v : SeatView) → n ≡ (joint joint_view m.0 e.0, m.1) → IsGathered m number v → IsGathered n number v
  gathered_more m e n number v is g = subst (λ (z : Seated (CellValue F S) SeatView). IsGathered z number v) (sym is) (⊎_elim (λ (p : (m.0.number ≡ number) × (m.0.client.number ≡ v.number) × (m.0.client.calls ≡ v.calls)). inl p)
      (λ (p : IsIn number m.0.joined × ((k : ℕ) × (get_elem? m.0.client.kept k ≡ some (v.number, v.calls)))). inr ((suc p.0.0, p.0.1), (suc p.1.0, at_longer m.0.client.kept e.0.client.kept p.1.0 (v.number, v.calls) p.1.1))) g)

  pub gathered_other : (m n : Seated (CellValue F S) SeatView) (s : Seat F S) → n ≡ (joint joint_view m.0 s.token.me.0, m.1) → IsGathered n (seat_number s) (seat_view s)
  gathered_other m n s is = subst (λ (z : Seated (CellValue F S) SeatView). IsGathered z (seat_number s) (seat_view s)) (sym is) (inr ((0, ap (λ (k : ℕ). some k) s.resting.0), (0, refl)))

  pub still_of : (cells : Cells F S) (s t : Seat F S) → IsSameSeat s t → IsOf cells s → IsOf cells t
  still_of cells s t same of = record { place = same.place ∙ of.place; among = same.among ∙ of.among }

  pub still_none : (m e n : Seated (CellValue F S) SeatView) → n ≡ (joint joint_view m.0 e.0, m.1) → ((k : ℕ) → NoTurn m.0.taken k) → (k : ℕ) → NoTurn n.0.taken k
  still_none m e n is bare = subst (λ (z : Seated (CellValue F S) SeatView). (k : ℕ) → NoTurn z.0.taken k) (sym is) bare

  pub each_gathered : (all seats front : List (Seat F S)) (other : Seat F S) (m n : Seated (CellValue F S) SeatView) → seats ≡ front ++ other ∷ [] → ((k : ℕ) (s : Seat F S) → get_elem? seats k ≡ some s → get_elem? all k ≡ some s)
      → ((k : ℕ) (s : Seat F S) → get_elem? all k ≡ some s → (k < length seats) ⊎ IsGathered m (seat_number s) (seat_view s)) → n ≡ (joint joint_view m.0 other.token.me.0, m.1)
      → (k : ℕ) (s : Seat F S) → get_elem? all k ≡ some s → (k < length front) ⊎ IsGathered n (seat_number s) (seat_view s)
  each_gathered all seats front other m n is prefix each joins k s at = ⊎_elim
      (λ (lt : k < length seats). ⊎_elim (λ (p : k < length front). inl p)
      (λ (p : k ≡ length front). let q : other ≡ s = at_same all k other s (ap (get_elem? all) p ∙ prefix (length front) other (at_end seats front other is)) at in
      inr (subst (λ (z : Seat F S). IsGathered n (seat_number z) (seat_view z)) q (gathered_other m n other joins))) (shorter seats front other k is lt))
      (λ (g : IsGathered m (seat_number s) (seat_view s)). inr (gathered_more m other.token.me n (seat_number s) (seat_view s) joins g)) (each k s at)

  pub alone : (cells : Cells F S) (seats : List (Seat F S)) (last : Seat F S) → AreAll cells seats → IsOf cells last → ((k : ℕ) (s : Seat F S) → get_elem? seats k ≡ some s → IsGathered last.token.me (seat_number s) (seat_view s))
      → (i : ℕ) → i < last.token.me.0.among → i ≢ last.token.me.0.number → IsIn i last.token.me.0.joined
  alone cells seats last all of each i lt ne =
      let e = all.each i (subst (λ (n : ℕ). i < n) of.among lt) in
      ⊎_elim (λ (p : (last.token.me.0.number ≡ seat_number e.1) × (last.token.me.0.client.number ≡ (seat_view e.1).number) × (last.token.me.0.client.calls ≡ (seat_view e.1).calls)). absurd (ne (sym (p.0 ∙ e.3))))
      (λ (p : IsIn (seat_number e.1) last.token.me.0.joined × ((k : ℕ) × (get_elem? last.token.me.0.client.kept k ≡ some ((seat_view e.1).number, (seat_view e.1).calls)))). subst (λ (n : ℕ). IsIn n last.token.me.0.joined) e.3 p.0) (each e.0 e.1 e.2)

  -- ---- slots

  pub no_empty : (slots : List (Option (CellValue F S))) (vals : List (CellValue F S)) (k : ℕ) → slots ≡ map (λ x. Some x) vals → get_elem? slots k ≡ some None → ⊥
  no_empty slots vals k is e = let o = map_at (λ (x : CellValue F S). Some x) vals k None (ap (λ (l : List (Option (CellValue F S))). get_elem? l k) (sym is) ∙ e) in let r = o.2 in (let q : ⊥ = cc in q)

  val_at : (slots : List (Option (CellValue F S))) (vals : List (CellValue F S)) (k : ℕ) (x : CellValue F S) → slots ≡ map (λ x. Some x) vals → get_elem? slots k ≡ some (Some x) → get_elem? vals k ≡ some x
  val_at slots vals k x is e = let o = map_at (λ (x : CellValue F S). Some x) vals k (Some x) (ap (λ (l : List (Option (CellValue F S))). get_elem? l k) (sym is) ∙ e) in let q : o.0 ≡ x = (let r = o.2 in cc) in o.1 ∙ ap some q

  row_is_rest : (first : F) (rest : List S) (k : ℕ) (f : F) → 0 < k → get_elem? (values first rest) k ≡ some (First f) → ⊥
  row_is_rest first rest zero f lt e = absurd (omega (arith, lt))
  row_is_rest first rest (suc k) f lt e = let o = map_at {B = CellValue F S} (λ (y : S). Rest y) rest k (First f) e in let r = o.2 in (let q : ⊥ = cc in q)

  pub no_first_there : (slots : List (Option (CellValue F S))) (first : F) (rest : List S) (k : ℕ) (x : CellValue F S) (f : F) → slots ≡ map (λ x. Some x) (values first rest) → get_elem? slots (k + 1) ≡ some (Some x) → x ≡ First f → ⊥
  no_first_there slots first rest k x f is e q = row_is_rest first rest (k + 1) f (omega arith) (val_at slots (values first rest) (k + 1) x is e ∙ ap some q)

  there : (slots : List (Option (CellValue F S))) (first : F) (row : List S) → get_elem? slots 0 ≡ some (Some (First first)) → ((k : ℕ) (x : S) → get_elem? row k ≡ some x → get_elem? slots (suc k) ≡ some (Some (Rest x))) → (k : ℕ) (x : CellValue F S) → get_elem? (values first row) k ≡ some x → get_elem? slots k ≡ some (Some x)
  there slots first row zeroth each zero x e = zeroth ∙ ap (λ (y : CellValue F S). some (Some y)) (some-injective (First first) x e)
  there slots first row zeroth each (suc k) x e = let o = map_at {B = CellValue F S} (λ (y : S). Rest y) row k x e in each k o.0 o.1 ∙ ap (λ (y : CellValue F S). some (Some y)) o.2

  pub unpacked : (slots : List (Option (CellValue F S))) (first : F) (row : List S) → length slots ≡ length row + 1 → get_elem? slots 0 ≡ some (Some (First first)) → ((k : ℕ) (x : S) → get_elem? row k ≡ some x → get_elem? slots (suc k) ≡ some (Some (Rest x))) → slots ≡ map (λ x. Some x) (values first row)
  unpacked slots first row long zeroth each =
      let l : length (map {B = CellValue F S} (λ (y : S). Rest y) row) ≡ length row = length-map row (λ (y : S). Rest y) in
      same_somes slots (values first row) (omega (arith, long, l)) (there slots first row zeroth each)

  pub each_next : (slots : List (Option (CellValue F S))) (row : List S) (x : S) (i : ℕ) → length row ≡ i → ((k : ℕ) (y : S) → get_elem? row k ≡ some y → get_elem? slots (suc k) ≡ some (Some (Rest y))) → get_elem? slots (i + 1) ≡ some (Some (Rest x))
      → (k : ℕ) (y : S) → get_elem? (row ++ x ∷ []) k ≡ some y → get_elem? slots (suc k) ≡ some (Some (Rest y))
  each_next slots row x i long each here k y e = ⊎_elim (λ (p : get_elem? row k ≡ some y). each k y p)
      (λ (p : (x ≡ y) × (k ≡ length row)). let q : suc k ≡ i + 1 = (let a = p.1 in omega (arith, a, long)) in ap (get_elem? slots) q ∙ (here ∙ ap (λ (z : S). some (Some (Rest z))) p.0)) (at_push row x y k e)

  -- ---- the end

  same_vals : (vals vals' : List (CellValue F S)) → map (λ (x : CellValue F S). Some x) vals ≡ map (λ (x : CellValue F S). Some x) vals' → vals ≡ vals'
  same_vals [] [] e = refl
  same_vals [] (y ∷ ys) e = absurd (let q = ap length e in omega (arith, q))
  same_vals (x ∷ xs) [] e = absurd (let q = ap length e in omega (arith, q))
  same_vals (x ∷ xs) (y ∷ ys) e = let p : Some x ≡ Some y = some-injective (Some x) (Some y) (ap (λ l. get_elem? l 0) e) in let q : x ≡ y = cc in
      (λ i. q i ∷ same_vals xs ys (ap tail_of e) i)

module _ {F S : Type 0} (w : Names F S) (about : About) (n among id : ℕ) (v : SeatView) (words : List ℕ) (slots : List (Option (CellValue F S))) (st : Settled (Whole w about) n among id v words slots) where
  -- the values are those of a first cell and a row
  pub values_are : (first : F) × (row : List S) × (slots ≡ map (λ x. Some x) (values first row))
  values_are = let o = row_of_vals st.vals st.rule.ruled.first st.rule.ruled.chief st.rule.ruled.rest in (st.rule.ruled.first, o.0, st.slots_are ∙ ap (map (λ (x : CellValue F S). Some x)) o.1)

  module _ (first : F) (row : List S) (is : slots ≡ map (λ x. Some x) (values first row)) where
    rule : Whole w about words (values first row) st.views
    rule = subst (λ (vs : List (CellValue F S)). Whole w about words vs st.views) (same_vals st.vals (values first row) (sym st.slots_are ∙ is)) st.rule

    free : get_or words 0 0 ≡ 0
    free = let f = st.full in let b = at_below st.vals 0 (First st.rule.ruled.first) st.rule.ruled.chief in st.free 0 (omega (arith, f, b))

    pub closed_rests : IsAtRest w about first row
    closed_rests = rests w about first row words st.views rule free

    pub closed_accounts : v.spent ≡ false → (m : Seated (CellValue F S) SeatView) → m.0.client ≡ v → (number : ℕ) (u : SeatView) → IsGathered m number u → Accounts w first row u.number u.calls
    closed_accounts used m is number u g = ⊎_elim
        (λ (p : (m.0.number ≡ number) × (m.0.client.number ≡ u.number) × (m.0.client.calls ≡ u.calls)).
        let named : id ≡ u.number = sym (rule.ruled.informed id v st.view used).2 ∙ (ap (λ (z : SeatView). z.number) (sym is) ∙ p.1) in
        subst (λ (z : ℕ × List Entry). Accounts w first row z.0 z.1) (λ i. (named i, (ap (λ (z : SeatView). z.calls) (sym is) ∙ p.2) i)) (accounts_own w about first row words st.views rule free id v st.view used))
        (λ (p : IsIn number m.0.joined × ((k : ℕ) × (get_elem? m.0.client.kept k ≡ some (u.number, u.calls)))).
        accounts_kept w about first row words st.views rule free id v st.view used p.1.0 u.number u.calls (ap (λ (z : SeatView). get_elem? z.kept p.1.0) (sym is) ∙ p.1.1)) g

    pub closed_no_others : (seats : ℕ) → among ≡ seats → (j : ℕ) → seats ≤ j → Fits w (w.journal first) (values first row) j []
    closed_no_others seats is = no_others w about first row words st.views rule free seats (subst (λ (z : ℕ). length st.views ≤ z) is st.few)
