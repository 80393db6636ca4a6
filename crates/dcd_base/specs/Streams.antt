-- What it means to read and to write bytes in order, and that a count of faults rose.
use Rattle.std.specs.Prelude.{◌≡◌, ◌⊎◌, ℕ, ◌-◌, ◌^◌, ◌<◌, List, [], ◌++◌, Option, Some, None}

-- A count rose, or stands at its last value.
abbrev pub HasRisen : ℕ → ℕ → Type 0
HasRisen old new = (old < new) ⊎ (new ≡ 2 ^ 64 - 1)

-- what was left before these bytes were read
abbrev pub with_front : List ℕ → Option (List ℕ) → Option (List ℕ)
with_front bytes None = None
with_front bytes (Some rest) = Some (bytes ++ rest)

-- Nothing is left, where the source tells.
abbrev pub IsAtEnd : Option (List ℕ) → Type 0
IsAtEnd None = Unit {0}
IsAtEnd (Some rest) = rest ≡ []

-- what was taken once these bytes came too
abbrev pub taken_after : List ℕ → Option (List ℕ) → Option (List ℕ)
taken_after bytes None = None
taken_after bytes (Some before) = Some (before ++ bytes)

-- The sink took some bytes from old to new, and with the rest they are the whole.
-- All was written where the rest is []; a write that failed midway leaves some rest.
pub record Passes (old new : Option (List ℕ)) (rest whole : List ℕ) : Type 0 where
  pub sent : List ℕ
  pub took : new ≡ taken_after sent old
  pub parts : whole ≡ sent ++ rest
