-- Entries that are lent one after another.
use Rattle.std.specs.Prelude.{◌≡◌, ℕ, Bool, true, false, not, List, [], ◌∷◌, Option, Some, None, drop, flat_map, if◌then◌else◌, take}
use Rattle.dcd_base.specs.declared.steps.Stamp.{Stamp}
use Rattle.kept_journal.specs.{Keeping.step_entry, declared.both.Side.Side, declared.lending.Lent.Lent}
use Rattle.journal_core.specs.{Merging.Rising, Merging.is_later, declared.entries.Entry.Entry}

-- the entry that is lent
abbrev pub lent_entry : Lent → Entry
lent_entry (Lent.Full e) = e.now
lent_entry (Lent.Small a) = a.now
lent_entry (Lent.Step s) = step_entry s.number s.step.now s.bytes.now

-- the same, if there is one
abbrev pub lent : Option Lent → Option Entry
lent None = None
lent (Some l) = Some (lent_entry l)

-- the first of some entries
abbrev pub first_entry : List Entry → Option Entry
first_entry [] = None
first_entry (e ∷ entries) = Some e

-- the stamp of the first
abbrev pub first_stamp : List Entry → Option Stamp
first_stamp [] = None
first_stamp (e ∷ entries) = Some e.stamp

-- whether what has the first stamp goes before what has the second: it does where the second is not earlier, and before
-- what has none
abbrev pub goes_first : Option Stamp → Option Stamp → Bool
goes_first first None = true
goes_first None (Some second) = false
goes_first (Some first) (Some second) = not (is_later first second)

-- Both lists rise, and these are the stamps of their first entries.
pub record AreNext (xs ys : List Entry) (first second : Option Stamp) : Type 0 where
  pub first_is : first ≡ first_stamp xs
  pub second_is : second ≡ first_stamp ys
  pub first_rises : Rising xs
  pub second_rises : Rising ys

-- the side that goes first
abbrev pub next_side : Option Stamp → Option Stamp → Side
next_side first second = if goes_first first second then Side.First else Side.Second

-- And this side goes first.
pub record IsNext (xs ys : List Entry) (first second : Option Stamp) (side : Side) : Type 0 where
  pub next : AreNext xs ys first second
  pub side_is : side ≡ next_side first second

-- ---- many lists

-- the entries of so many lists from a place on
abbrev pub some_lists : List (List Entry) → ℕ → ℕ → List Entry
some_lists lists at n = flat_map (λ entries. entries) (take n (drop at lists))
