-- How the reading of a source to its end goes.
use Rattle.std.specs.{Prelude.◌≡◌, Prelude.ℕ, Prelude.◌+◌, Prelude.◌≤◌, Prelude.List, Prelude.length, Prelude.Option, declared.result.Result.Result}
use Rattle.std.specs.declared.result.Result.TheVariants.{Ok, Err}
use Rattle.dcd_base.specs.Streams.{HasRisen, IsAtEnd, with_front}
use Rattle.edge_io.specs.declared.reading.ReadEnd.{ReadEnd}

-- Some bytes, no more than so many, were taken from what was left.
pub record TakesAtMost (most : ℕ) (old new : Option (List ℕ)) : Type 0 where
  pub bytes : List ℕ
  pub few : length bytes ≤ most
  pub taken : old ≡ with_front bytes new

-- These bytes were taken, no more than so many, and nothing is left.
pub record TakesAll (most : ℕ) (old new : Option (List ℕ)) (bytes : List ℕ) : Type 0 where
  pub few : length bytes ≤ most
  pub taken : old ≡ with_front bytes new
  pub end : IsAtEnd new

-- One byte more was taken than so many: more was left.
pub record TakesMore (most : ℕ) (old new : Option (List ℕ)) : Type 0 where
  pub bytes : List ℕ
  pub one_more : length bytes ≡ most + 1
  pub taken : old ≡ with_front bytes new

-- What comes of it: all that was left, which is not more than asked for; or more was left; or a read failed. Nothing is
-- said of memory. Old and new are what was left before and after, faults and count the failed reads.
abbrev pub Ends : ℕ → Option (List ℕ) → Option (List ℕ) → ℕ → ℕ → Result (List ℕ) ReadEnd → Type 0
Ends most old new faults count (Ok bytes) = TakesAll most old new bytes
Ends most old new faults count (Err ReadEnd.TooLong) = TakesMore most old new
Ends most old new faults count (Err ReadEnd.ReadFault) = HasRisen faults count
Ends most old new faults count (Err ReadEnd.NoMemory) = Unit {0}
