-- The same lines by the state of the generator before them.
use Rattle.std.specs.Prelude.{◌≡◌, ℕ, zero, suc, ◌+◌, ◌*◌, IsTrue, List, [], ◌∷◌, ◌++◌, Option, Some, None, flat_map}
use Rattle.std.specs.List.{list_all, range_with_len}
use Rattle.script_codec.specs.{declared.script_line.Line.Line, Scripts.is_sound_line}
use Rattle.script_gen.specs.Generated.{next_draw, access_lines, take_line, clear_line, offers_lines, end_lines}

-- the state after so many draws
unfoldable pub draws_after : ℕ → ℕ → ℕ
draws_after x zero = x
draws_after x (suc n) = draws_after (next_draw x) n

-- one store and load, by the next two draws
abbrev pub access_by : ℕ → ℕ → ℕ → List Line
access_by k h x = access_lines k h (next_draw x) (next_draw (next_draw x))

abbrev pub accesses_by : ℕ → ℕ → ℕ → ℕ → List Line
accesses_by k h x n = flat_map (λ i. access_by k h (draws_after x (2 * i))) (range_with_len 0 n)

-- what host h does with its extent, by the next 32 draws
unfoldable pub use_by : ℕ → ℕ → ℕ → List Line
use_by k h x = take_line k h ∷ clear_line k h ∷ accesses_by k h x 16

abbrev pub uses_by : ℕ → ℕ → ℕ → List Line
uses_by k x n = flat_map (λ h. use_by k h (draws_after x (32 * h))) (range_with_len 0 n)

-- a round, by the next 128 draws
unfoldable pub round_by : ℕ → ℕ → List Line
round_by k x = offers_lines k ++ Line.Mark ∷ uses_by k x 4 ++ Line.Mark ∷ end_lines k

abbrev pub rounds_by : ℕ → ℕ → List Line
rounds_by x n = flat_map (λ k. round_by k (draws_after x (128 * k))) (range_with_len 0 n)

-- ---- round by round

-- so many rounds from a round on
unfoldable pub rounds_from : ℕ → ℕ → ℕ → List Line
rounds_from zero k x = []
rounds_from (suc n) k x = round_by k x ++ rounds_from n (k + 1) (draws_after x 128)

-- How many rounds are still to come, and their lines.
pub record Unmade : Type 0 where
  pub left : ℕ
  pub rest : List Line

-- These lines came first of those that were still to come, and they are sound.
pub record IsRound (old new : Unmade) (lines : List Line) : Type 0 where
  pub left : old.left ≡ new.left + 1
  pub rest : old.rest ≡ lines ++ new.rest
  pub sound : IsTrue (list_all (is_sound_line 4 1) lines)

-- What asking for the next round answers: its lines, or that none comes.
abbrev pub IsNextRound : Unmade → Unmade → Option (List Line) → Type 0
IsNextRound old new None = (old.rest ≡ []) × (new ≡ old)
IsNextRound old new (Some lines) = IsRound old new lines
