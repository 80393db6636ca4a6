-- Filling the cells, and making the seats, one by one.
use Rattle.std.proofs.Common.{◌≡◌, ◌≢◌, ℕ, zero, suc, ◌+◌, ◌<◌, List, [], ◌∷◌, ◌++◌, map, length, set, sym, refl, ap, ◌∙◌, subst, ⊎_elim, arith, Option, Some, None}
use Rattle.std.proofs.lemmas.List.{length_push}
use mathlib.Core.Logic.{dite}
use mathlib.Core.Option.{some, some-injective}
use native.Mathlib.Decide.{ℕ_discrete}
use lib.ListN.{get_elem?, length-map}
use Rattle.atomic_table.proofs.Lists.{at_set, set_else, at_map, at_longer, at_last}
use Rattle.ruled_cells.{proofs.Places.at_below, proofs.Places.at_push, proofs.Places.map_at, proofs.Places.at_replicate, specs.Calls.IsNew, specs.Calls.seats_of}
use Rattle.ruled_cells.specs.{Making.IsMaker, Making.IsFilling, Making.fills, Seats.place_of, Seats.seat_number, Telling.fresh_seat, Telling.next_view, Telling.values}
use Rattle.ruled_cells.specs.{Turning.HasTurn, Turning.NoTurn, Turning.Seated, Turning.IsGiven, Turning.enrolled, Turning.newcomer, Turning.opener, declared.about.About.About}
use Rattle.ruled_cells.specs.declared.{about.SeatView.SeatView, cell_value.CellValue.CellValue, cell_value.CellValue.TheVariants.Rest, cells.Cells.Cells, seat.Seat.Seat}
use Rattle.ruled_cells.specs.declared.turns.seat_state.SeatState.{SeatState}

-- giving a turn back leaves no turn there, and the others as they were
given_none : {A : Type 0} (taken : List (Option A)) (k : ℕ) → NoTurn (set taken k None) k
given_none taken k x h = ⊎_elim (λ (p : (k ≡ k) × (None ≡ Some x)). absurd (let q : None ≡ Some x = p.1 in (cc))) (λ (p : (k ≢ k) × (get_elem? taken k ≡ some (Some x))). p.0 refl) (at_set taken k k None (Some x) h)

given_other : {A : Type 0} (taken : List (Option A)) (k j : ℕ) → NoTurn taken j → NoTurn (set taken k None) j
given_other taken k j nope x h = ⊎_elim (λ (p : (j ≡ k) × (None ≡ Some x)). absurd (let q : None ≡ Some x = p.1 in (cc))) (λ (p : (j ≢ k) × (get_elem? taken j ≡ some (Some x))). nope x p.1) (at_set taken k j None (Some x) h)

-- the new seat stands behind the others
pub each_push : {A : Type 0} (P : ℕ → A → Type 0) (l : List A) (a : A) → ((k : ℕ) (b : A) → get_elem? l k ≡ some b → P (suc k) b) → P (suc (length l)) a → (k : ℕ) (b : A) → get_elem? (l ++ a ∷ []) k ≡ some b → P (suc k) b
each_push {A} P l a old new k b e = ⊎_elim (λ (q : get_elem? l k ≡ some b). old k b q) (λ (q : (a ≡ b) × (k ≡ length l)). subst (λ (z : ℕ × A). P (suc z.0) z.1) (λ i. (sym q.1 i, q.0 i)) new) (at_push l a b k e)

-- seat 0 stands before the others
pub each_front : {A : Type 0} (P : ℕ → A → Type 0) (a : A) (l : List A) → P 0 a → ((k : ℕ) (b : A) → get_elem? l k ≡ some b → P (suc k) b) → (k : ℕ) (b : A) → get_elem? (a ∷ l) k ≡ some b → P k b
each_front P a l here others zero b e = subst (P 0) (some-injective a b e) here
each_front P a l here others (suc k) b e = others k b e

module _ {F S : Type 0} where
  pub maker_gave : (among made k : ℕ) (about : About) (x : CellValue F S) (m n : Seated (CellValue F S) SeatView) → IsMaker among made about m → IsGiven fills k m x n → IsMaker among made about n
  maker_gave among made k about x m n h g = subst (IsMaker among made about) (sym g.3) record { number = h.number; among_is = h.among_is; live = h.live; still = refl; makes = h.makes; made_is = h.made_is; client = g.4 ∙ h.client; bare = refl }

  pub filling_first : (rest : List S) (x : CellValue F S) (m n : Seated (CellValue F S) SeatView) → IsFilling rest m → IsGiven fills 0 m x n → IsFilling rest n × NoTurn n.0.taken 0
  filling_first rest x m n h g = subst (λ (z : Seated (CellValue F S) SeatView). IsFilling rest z × NoTurn z.0.taken 0) (sym g.3) (
    record {
      turn = λ k y e. set_else m.0.taken 0 (suc k) None (λ q. omega (arith, q)) ∙ h.turn k y e;
      no_turn = λ k lt. given_other m.0.taken 0 k (h.no_turn k lt);
    },
    given_none m.0.taken 0,
  )

  -- the last of the row is given back
  filling_less : (rest more : List S) (y : S) (x : CellValue F S) (m n : Seated (CellValue F S) SeatView) → more ≡ rest ++ y ∷ [] → IsFilling more m → NoTurn m.0.taken 0 → IsGiven fills (suc (length rest)) m x n → IsFilling rest n × NoTurn n.0.taken 0
  filling_less rest more y x m n is h free g =
      let k : ℕ = suc (length rest) in
      let long : length more ≡ length rest + 1 = ap length is ∙ length_push rest y in subst (λ (z : Seated (CellValue F S) SeatView). IsFilling rest z × NoTurn z.0.taken 0) (sym g.3) (
        record {
          turn = λ j z e. let b : j < length rest = at_below rest j z e in set_else m.0.taken k (suc j) None (λ q. omega (arith, q, b)) ∙ h.turn j z (ap (λ (l : List S). get_elem? l j) is ∙ at_longer rest (y ∷ []) j z e);
          no_turn = λ j lt. dite (ℕ_discrete j k) (λ (q : j ≡ k). subst (NoTurn (set m.0.taken k None)) (sym q) (given_none m.0.taken k)) (λ ne. given_other m.0.taken k j (h.no_turn j (omega (arith, long, lt, ne))));
        },
        given_other m.0.taken k 0 free,
      )

  pub filling_next : (rest more : List S) (y : S) (x : CellValue F S) (m n : Seated (CellValue F S) SeatView) → more ≡ rest ++ y ∷ [] → IsFilling more m → NoTurn m.0.taken 0 → IsGiven fills (length rest + 1) m x n → IsFilling rest n × NoTurn n.0.taken 0
  filling_next rest more y x m n is h free g = filling_less rest more y x m n is h free (subst (λ (k : ℕ). IsGiven fills k m x n) (let e : length rest + 1 ≡ suc (length rest) = omega arith in e) g)

  pub filling_turn : (rest more : List S) (y : S) (m : Seated (CellValue F S) SeatView) → more ≡ rest ++ y ∷ [] → IsFilling more m → HasTurn m.0.taken (suc (length rest)) (Rest y)
  filling_turn rest more y m is h = h.turn (length rest) y (ap (λ (l : List S). get_elem? l (length rest)) is ∙ at_last rest y (length rest) refl)

  -- a seat is made
  pub maker_enrolled : (among made : ℕ) (about : About) (m n : Seated (CellValue F S) SeatView) → IsMaker among made about m → n ≡ (enrolled m.0, m.1) → IsMaker among (made + 1) about n × (n.0.taken ≡ m.0.taken)
  maker_enrolled among made about m n h e =
      (subst (IsMaker among (made + 1) about) (sym e) record { number = h.number; among_is = h.among_is; live = h.live; still = h.still; makes = h.makes; made_is = ap (λ (z : ℕ). z + 1) h.made_is; client = h.client; bare = h.bare }, ap (λ (z : Seated (CellValue F S) SeatView). z.0.taken) e)

  pub newcomer_turns : (d : SeatState (CellValue F S) SeatView) → (k : ℕ) → NoTurn (newcomer next_view d).taken k
  newcomer_turns d k x h = let e : None ≡ Some x = at_replicate (length d.taken) k None (Some x) h in (let q : ⊥ = cc in q)

  pub new_seat : (cells : Cells F S) (about : About) (made k : ℕ) (m : Seated (CellValue F S) SeatView) (s : Seat F S) → IsMaker (seats_of cells) made about m → k ≡ made → place_of s ≡ cells.table.shared.table_id → seat_number s ≡ made → s.token.me ≡ (newcomer next_view m.0, []) → IsNew cells about k s
  new_seat cells about made k m s h is place number e = record {
    of = record { place = place; among = ap (λ (z : Seated (CellValue F S) SeatView). z.0.among) e ∙ h.among_is };
    number = number ∙ sym is;
    view = ap (λ (z : Seated (CellValue F S) SeatView). z.0.client) e ∙ (λ i. next_view ((h.made_is ∙ sym is) i) (h.client i));
    no_turns = subst (λ (z : Seated (CellValue F S) SeatView). (j : ℕ) → NoTurn z.0.taken j) (sym e) (newcomer_turns m.0);
  }

  pub opener_fills : (among : ℕ) (about : About) (first : F) (rest : List S) (m : Seated (CellValue F S) SeatView) → m ≡ (opener among (values first rest) (fresh_seat 0 about), []) → IsFilling rest m
  opener_fills among about first rest m e = subst (IsFilling rest) (sym e) record {
    turn = λ k x h. at_map (λ (y : CellValue F S). Some y) (values first rest) (suc k) (Rest x) (at_map {B = CellValue F S} (λ (y : S). Rest y) rest k x h);
    no_turn = λ k lt x h. let o = map_at (λ (y : CellValue F S). Some y) (values first rest) k (Some x) h in let b : k < length (values first rest) = at_below (values first rest) k o.0 o.1 in
        let l : length (map {B = CellValue F S} (λ (y : S). Rest y) rest) ≡ length rest = length-map rest (λ (y : S). Rest y) in omega (arith, b, l, lt);
  }

  pub first_seat : (cells : Cells F S) (about : About) (made : ℕ) (s : Seat F S) → IsMaker (seats_of cells) made about s.token.me → place_of s ≡ cells.table.shared.table_id → seat_number s ≡ 0 → ((k : ℕ) → NoTurn s.token.me.0.taken k) → IsNew cells about 0 s
  first_seat cells about made s h place number bare = record { of = record { place = place; among = h.among_is }; number = number; view = h.client; no_turns = bare }

  pub all_new : (cells : Cells F S) (about about' : About) (all others : List (Seat F S)) (s : Seat F S) → about ≡ about' → all ≡ s ∷ others → IsNew cells about 0 s → ((k : ℕ) (b : Seat F S) → get_elem? others k ≡ some b → IsNew cells about (suc k) b) → (k : ℕ) (b : Seat F S) → get_elem? all k ≡ some b → IsNew cells about' k b
  all_new cells about about' all others s same is here each k b e = subst (λ (a : About). IsNew cells a k b) same (each_front (IsNew cells about) s others here each k b (ap (λ (l : List (Seat F S)). get_elem? l k) (sym is) ∙ e))
