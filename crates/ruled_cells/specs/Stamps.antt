-- Stamps, and lists of entries by their stamps.
use Rattle.std.specs.Prelude.{◌≡◌, ◌⊎◌, ℕ, ◌+◌, ◌<◌, Bool, true, false, ◌&&◌, ◌||◌, ◌==◌, not, List, [], ◌∷◌, ◌++◌, Option, Some, None}
use mathlib.Core.Option.{some}
use lib.ListN.{get_elem?}
use Rattle.dcd_base.specs.declared.steps.Stamp.{Stamp}
use Rattle.journal_core.specs.{declared.entries.Entry.Entry, Entries.is_control}

abbrev pub stamp : ℕ → ℕ → Stamp
stamp number count = record { number = number; count = count }

-- s is below t
abbrev pub Below : Stamp → Stamp → Type 0
Below s t = (s.number < t.number) ⊎ ((s.number ≡ t.number) × (s.count < t.count))

-- each stamp is below those behind it
abbrev pub Rise : List Entry → Type 0
Rise entries = (i k : ℕ) (e f : Entry) → i < k → get_elem? entries i ≡ some e → get_elem? entries k ≡ some f → Below e.stamp f.stamp

-- the journal of a first cell: its k-th entry, counted from 1, is a command or a scrub and has the stamp (k, 0)
abbrev pub IsControlLog : List Entry → Type 0
IsControlLog log = (k : ℕ) (e : Entry) → get_elem? log k ≡ some e → (e.stamp ≡ stamp (k + 1) 0) × (is_control e.act ≡ true)

-- the journal with the entry that was noted
abbrev pub stamps_after : List Entry → Option Entry → List Entry
stamps_after log None = log
stamps_after log (Some e) = log ++ e ∷ []

abbrev pub has_index : ℕ → List ℕ → Bool
has_index k [] = false
has_index k (x ∷ xs) = (k == x) || has_index k xs

-- the noted entry has still to change the cell k
abbrev pub pending : (ℕ → Entry → Bool) → Option Entry → List ℕ → ℕ → Bool
pending touches None changed k = false
pending touches (Some e) changed k = touches k e && not (has_index k changed)
