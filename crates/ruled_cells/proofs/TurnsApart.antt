-- The words of the table stand apart: a step on one of them is the same step on the words side by side.
use Rattle.std.proofs.Common.{◌≡◌, ◌≢◌, ℕ, ◌+◌, ◌*◌, ◌/◌, ◌^◌, ◌<◌, true, List, [], ◌∷◌, length, replicate, get_or, set, sym, refl, ap, ◌∙◌, subst, arith, Option, None, length-set, get_or-set_same, get_or-set_other}
use Rattle.std.proofs.Math.Nat.{mul-div_cancel_left}
use mathlib.Core.Logic.{dite}
use native.Mathlib.Decide.{ℕ_discrete}
use lib.ListN.{length-replicate, get_or-replicate}
use Rattle.atomic_table.specs.Table.{State, Me, Allows, Splits, Joins, carried_after, homes_after, opening, Final, Seen}
use Rattle.ruled_cells.proofs.TurnSeats.{closes, first_words, opens_at}
use Rattle.ruled_cells.specs.{Turning.IsIn, Turning.NoTurn, Turning.IsApart, Turning.Tied, Turning.TiedApart, Turning.SettledBy, Turning.opener, declared.turns.seat_state.SeatState.SeatState}

-- the place of a word among those side by side
pub in_row_at : (word k : ℕ) → word ≡ 8 * k → word / 8 ≡ k
in_row_at word k e = ap (λ (z : ℕ). z / 8) e ∙ mul-div_cancel_left k (omega arith)

set_apart : (n : ℕ) (table words : List ℕ) (k w : ℕ) → IsApart n table words → length words ≡ n + 1 → k < n + 1 → IsApart n (set table (8 * k) w) (set words k w)
set_apart n table words k w apart long lt = record {
  wide = length-set table (8 * k) w ∙ apart.wide;
  at = λ j jl. dite (ℕ_discrete j k)
      (λ (q : j ≡ k). subst (λ (z : ℕ). get_or (set table (8 * k) w) (8 * z) 0 ≡ get_or (set words k w) z 0) (sym q)
      (get_or-set_same table (8 * k) w 0 (let l = apart.wide in omega (arith, l, lt)) ∙ sym (get_or-set_same words k w 0 (omega (arith, long, lt)))))
      (λ ne. get_or-set_other table (8 * k) (8 * j) w 0 (λ q. ne (omega (arith, q))) ∙ (apart.at j jl ∙ sym (get_or-set_other words k j w 0 ne)));
}

module _ {X V : Type 0} (n seats : ℕ) (holds : List ℕ → List X → List V → Type 0) where
  abbrev D : Type 0
  D = SeatState X V

  abbrev St : Type 0
  St = State (Option X) D

  abbrev M : Type 0
  M = Me (Option X) D

  abbrev Rule : St → Type 0
  Rule = Tied n seats holds

  abbrev Apart : St → Type 0
  Apart = TiedApart n seats holds

  steps_apart : (m : M) (slots id k : ℕ) (f : ℕ → ℕ) (then : ℕ → M → Type 0) → k < slots + 1 → Allows Rule slots id m k f then → Allows Apart slots id m (8 * k) f then
  steps_apart m slots id k f then lt allows s t deep at short =
      let is : slots ≡ n = sym deep ∙ t.tied.deep in
      let lt' : k < n + 1 = omega (arith, lt, is) in
      let same : get_or s.words (8 * k) 0 ≡ get_or t.words k 0 = t.apart.at k lt' in
      let w : ℕ = f (get_or s.words (8 * k) 0) in
      let a = allows record { words = t.words; homes = s.homes; views = s.views } t.tied deep at (subst (λ (z : ℕ). z < 18446744073709551616) same short) in (
        a.0,
        a.1,
        a.2,
        record {
          words = set t.words k w;
          apart = set_apart n s.words t.words k w t.apart t.tied.wide lt';
          tied = subst (λ (z : ℕ). Rule record { words = set t.words k (f z); homes = homes_after s.homes m.1 a.1; views = set s.views id a.0 }) (sym same) a.3;
        },
        subst (λ (z : ℕ). then z (a.0, carried_after m.1 a.1)) (sym same) a.4,
      )

  -- what a step tells may name the place of its word
  pub allows_apart : (m : M) (slots id k word : ℕ) (f : ℕ → ℕ) (then : ℕ → ℕ → M → Type 0) → word ≡ 8 * k → k < slots + 1 → Allows Rule slots id m k f (then k) → Allows Apart slots id m word f (then (word / 8))
  allows_apart m slots id k word f then is lt allows = subst (λ (z : ℕ × ℕ). Allows Apart slots id m z.0 f (then z.1)) (λ i. (sym is i, sym (in_row_at word k is) i)) (steps_apart m slots id k f (then k) lt allows)

  pub splits_apart : (id : ℕ) (d left right : D) → Splits Rule id d left right → Splits Apart id d left right
  splits_apart id d left right splits s t at = record { words = t.words; apart = t.apart; tied = splits record { words = t.words; homes = s.homes; views = s.views } t.tied at }

  pub joins_apart : (id other : ℕ) (d e both spent : D) → Joins Rule id d other e both spent → Joins Apart id d other e both spent
  joins_apart id other d e both spent joins s t at apart at' = record { words = t.words; apart = t.apart; tied = joins record { words = t.words; homes = s.homes; views = s.views } t.tied at apart at' }

  pub closes_apart : (id cells : ℕ) (d : D) (table : List ℕ) (slots : List (Option X)) → length slots ≡ cells → d.live ≡ true → ((k : ℕ) → NoTurn d.taken k) → ((i : ℕ) → i < d.among → i ≢ d.number → IsIn i d.joined)
      → Final (Seen Apart id d) table slots → SettledBy holds cells d table slots
  closes_apart id cells d table slots long live bare alone f =
      let s : St = f.0 in
      let t : Apart s = f.1.0 in
      let is : n ≡ cells = sym t.tied.deep ∙ (f.3 ∙ long) in (
        t.words,
        subst (λ (z : ℕ × List ℕ). IsApart z.0 z.1 t.words) (λ i. (is i, f.2 i)) t.apart,
        closes n seats holds id cells d t.words slots long live bare alone (record { words = t.words; homes = s.homes; views = s.views }, (t.tied, f.1.1), refl, f.3, f.4),
      )

-- the words at first
abbrev pub first_table : ℕ → List ℕ
first_table n = set (replicate (8 * n + 1) 1) (8 * n) 0

first_apart : (n : ℕ) → IsApart n (first_table n) (first_words n)
first_apart n = set_apart n (replicate (8 * n + 1) 1) (replicate (n + 1) 1) n 0
    record { wide = length-replicate (8 * n + 1) 1; at = λ k lt. get_or-replicate (8 * n + 1) (8 * k) 1 0 (omega (arith, lt)) ∙ sym (get_or-replicate (n + 1) k 1 0 lt) }
    (length-replicate (n + 1) 1) (omega arith)

pub opens_apart : {X V : Type 0} (seats : ℕ) (holds : List ℕ → List X → List V → Type 0) (cells : ℕ) (table : List ℕ) (xs : List X) (v : V) → cells ≡ length xs → table ≡ first_table cells → 0 < seats → seats < 2 ^ 32
    → ((ws : List ℕ) → length ws ≡ cells + 1 → ((k : ℕ) → k < cells → get_or ws k 0 ≡ 1) → get_or ws cells 0 ≡ 0 → holds ws xs (v ∷ []))
    → TiedApart (length xs) seats holds (opening table (replicate cells None) (opener seats xs v))
opens_apart seats holds cells table xs v count are some_seat few rule = record {
  words = first_words cells;
  apart = subst (λ (z : ℕ × List ℕ). IsApart z.0 z.1 (first_words cells)) (λ i. (count i, sym are i)) (first_apart cells);
  tied = opens_at seats holds cells (first_words cells) xs v count refl some_seat few rule;
}
