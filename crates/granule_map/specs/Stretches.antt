-- Numbers that pass a test, from one on up to a limit: the next of them, and how many lie together.
use Rattle.std.specs.Prelude.{◌≡◌, ℕ, ◌+◌, ◌*◌, ◌<◌, ◌≤◌, Bool, true, false, not, List, Option, Some, None, slice_index}
use Rattle.granule_map.specs.declared.blocks.FreeBlocks.{FreeBlocks}

-- a number passes where it does not pass the test
abbrev pub fails : (ℕ → Bool) → ℕ → Bool
fails p k = not (p k)

-- The lowest number from one on that passes, or the limit where none below it does.
pub record IsNext (p : ℕ → Bool) (from limit k : ℕ) : Type 0 where
  pub from_below : from ≤ k
  pub within : k ≤ limit
  pub none_before : (j : ℕ) → from ≤ j → j < k → p j ≡ false
  pub passes : k < limit → p k ≡ true

-- So many items from one on are as that one is.
abbrev pub AreAlike : List ℕ → ℕ → ℕ → Type 0
AreAlike items from count = (k : ℕ) → from ≤ k → k < from + count → slice_index items k ≡ slice_index items from

-- The next numbers from one on that pass, so many from the first on, and no more lie together with them.
pub record IsStretch (p : ℕ → Bool) (limit from first count : ℕ) : Type 0 where
  pub from_below : from ≤ first
  pub some : 0 < count
  pub within : first + count ≤ limit
  pub none_before : (k : ℕ) → from ≤ k → k < first → p k ≡ false
  pub each : (k : ℕ) → first ≤ k → k < first + count → p k ≡ true
  pub ends : first + count < limit → p (first + count) ≡ false

-- none where no number passes
abbrev pub NextStretch : (ℕ → Bool) → ℕ → ℕ → Option FreeBlocks → Type 0
NextStretch p limit from None = (k : ℕ) → from ≤ k → k < limit → p k ≡ false
NextStretch p limit from (Some blocks) = IsStretch p limit from blocks.first blocks.count

-- The blocks of a size that begin at a granule or behind it and end at another or before it.
pub record AreWhole (size from end first count : ℕ) : Type 0 where
  pub reaches : from ≤ first * size
  pub lowest : (k : ℕ) → k < first → k * size < from
  pub some : 0 < count
  pub fits : (first + count) * size ≤ end
  pub most : end < (first + count) * size + size

-- none where each block that begins there ends further up
abbrev pub BlocksBetween : ℕ → ℕ → ℕ → Option FreeBlocks → Type 0
BlocksBetween size from end None = (k : ℕ) → from ≤ k * size → end < k * size + size
BlocksBetween size from end (Some blocks) = AreWhole size from end blocks.first blocks.count
