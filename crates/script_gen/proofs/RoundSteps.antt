-- The script round by round.
use Rattle.std.proofs.Common.{◌≡◌, ℕ, zero, suc, ◌+◌, ◌-◌, ◌*◌, ◌<◌, List, [], ◌++◌, refl, sym, ap, subst, ◌∙◌, arith}
use Rattle.std.specs.{Prelude.IsTrue, Prelude.flat_map, List.list_all, List.range_with_len}
use Rattle.script_codec.specs.{Scripts.is_sound_line, declared.script_line.Line.Line}
use Rattle.script_gen.proofs.{Made.lines_made, Sound.sound_round, Stepping.after_parts}
use Rattle.script_gen.specs.{Drawing.IsRound, Drawing.draws_after, Drawing.round_by, Drawing.rounds_from, Generated.generated_lines}

-- from the state before them on, they are those of the definition
from_is : (x n k : ℕ) → rounds_from n k (draws_after x (128 * k)) ≡ flat_map (λ i. round_by i (draws_after x (128 * i))) (range_with_len k n)
unfolding rounds_from
from_is x zero k = refl
from_is x (suc n) k =
    ap (λ state. round_by k (draws_after x (128 * k)) ++ rounds_from n (k + 1) state) (sym (after_parts x (128 * k) 128 (128 * (k + 1)) (grind arith)))
    ∙ ap (λ rest. round_by k (draws_after x (128 * k)) ++ rest) (from_is x n (k + 1))

pub all_rounds : (seed : ℕ) → rounds_from 256 0 seed ≡ generated_lines seed
unfolding draws_after
all_rounds seed = from_is seed 256 0 ∙ sym (lines_made seed)

one_round : (m n k x : ℕ) → m ≡ suc n → rounds_from m k x ≡ round_by k x ++ rounds_from n (k + 1) (draws_after x 128)
unfolding rounds_from
one_round m n k x is = ap (λ i. rounds_from i k x) is

-- the next round comes first of those that are left
pub next_round : (k x state : ℕ) (lines : List Line) → k < 256 → state ≡ draws_after x 128 → lines ≡ round_by k x →
    IsRound (record { left = 256 - k; rest = rounds_from (256 - k) k x }) (record { left = 256 - (k + 1); rest = rounds_from (256 - (k + 1)) (k + 1) state }) lines
next_round k x state lines below state_is lines_are = record {
  left = omega (arith, below);
  rest = one_round (256 - k) (256 - (k + 1)) k x (omega (arith, below)) ∙ sym (λ i. lines_are i ++ rounds_from (256 - (k + 1)) (k + 1) (state_is i));
  sound = subst (λ xs. IsTrue (list_all (is_sound_line 4 1) xs)) (sym lines_are) (sound_round k x);
}

pub no_round : (k x : ℕ) → k ≡ 256 → rounds_from (256 - k) k x ≡ []
unfolding rounds_from
no_round k x is = ap (λ n. rounds_from n k x) (let none : 256 - k ≡ 0 = omega (arith, is) in none)
