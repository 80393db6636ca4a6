-- Who made which call: the books of the rule.
use Rattle.std.specs.Prelude.{◌≡◌, ◌⊎◌, ℕ, ◌+◌, ◌^◌, ◌<◌, ◌≤◌, true, false, ◌==◌, List, [], ◌∷◌, length, if◌then◌else◌}
use mathlib.Core.Option.{some}
use lib.ListN.{get_elem?}
use Rattle.dcd_base.specs.declared.steps.Stamp.{Stamp}
use Rattle.journal_core.specs.declared.entries.Entry.{Entry}
use Rattle.ruled_cells.specs.{Ruling.Names, Ruling.Ruled, Stamps.Below, Stamps.Rise, declared.about.About.About, declared.about.SeatView.SeatView, declared.cell_value.CellValue.CellValue}
use Rattle.ruled_cells.specs.declared.cell_value.CellValue.TheVariants.{First, Rest}

-- the weights of the entries, added up
abbrev pub weigh : (Entry → ℕ) → List Entry → ℕ
weigh h [] = 0
weigh h (e ∷ es) = h e + weigh h es

-- the weights of the entries of the seat j alone
abbrev pub own : ℕ → (Entry → ℕ) → Entry → ℕ
own j h e = if e.pass == j then h e else 0

abbrev pub weight_one : Entry → ℕ
weight_one e = 1

-- the stamps rise, and none is above the last one seen
pub record IsRisingTo (calls : List Entry) (seen : Stamp) : Type 0 where
  pub rise : Rise calls
  pub last : (k : ℕ) (e : Entry) → get_elem? calls k ≡ some e → Below e.stamp seen ⊎ (e.stamp ≡ seen)

module _ {F S : Type 0} (w : Names F S) where
  abbrev pub entries_in : CellValue F S → List Entry
  entries_in (First f) = []
  entries_in (Rest s) = w.entries s

  abbrev pub weigh_all : (Entry → ℕ) → List (CellValue F S) → ℕ
  weigh_all h [] = 0
  weigh_all h (x ∷ xs) = weigh h (entries_in x) + weigh_all h xs

  -- the weights of the entries of the journal and of all cells
  abbrev pub total : (Entry → ℕ) → List Entry → List (CellValue F S) → ℕ
  total h log vals = weigh h log + weigh_all h vals

  -- the calls are the entries of the seat j in the journal and in all cells, each as often, since they weigh the same however they are weighed
  abbrev pub Fits : List Entry → List (CellValue F S) → ℕ → List Entry → Type 0
  Fits log vals j calls = (h : Entry → ℕ) → weigh h calls ≡ total (own j h) log vals

  -- what a seat that was taken in had
  pub record IsKept (log : List Entry) (vals : List (CellValue F S)) (views : List SeatView) (i : ℕ) (calls : List Entry) : Type 0 where
    pub fits : Fits log vals i calls
    pub rising : (seen : Stamp) × IsRisingTo calls seen
    pub gone : (u : SeatView) → get_elem? views i ≡ some u → u.spent ≡ true
    pub below : i < length views

  pub record IsBooked (log : List Entry) (vals : List (CellValue F S)) (views : List SeatView) (j : ℕ) (v : SeatView) : Type 0 where
    pub fits : Fits log vals j v.calls
    pub rising : IsRisingTo v.calls v.seen
    pub kept : (k i : ℕ) (calls : List Entry) → get_elem? v.kept k ≡ some (i, calls) → IsKept log vals views i calls

  pub record Books (log : List Entry) (vals : List (CellValue F S)) (views : List SeatView) : Type 0 where
    pub each : (j : ℕ) (v : SeatView) → get_elem? views j ≡ some v → v.spent ≡ false → IsBooked log vals views j v
    -- no entry has the number of a seat that is not made yet
    pub later : (j : ℕ) → length views ≤ j → Fits log vals j []
    pub few : (j : ℕ) → total (own j weight_one) log vals ≤ 2 ^ 32

  -- no count of a clock or of a seen stamp is above the number of all entries
  pub record Counted (log : List Entry) (vals : List (CellValue F S)) (views : List SeatView) : Type 0 where
    pub clocks : (k : ℕ) (s : S) → get_elem? vals k ≡ some (Rest s) → (w.clock s).count ≤ total weight_one log vals
    pub seens : (j : ℕ) (v : SeatView) → get_elem? views j ≡ some v → v.spent ≡ false → v.seen.count ≤ total weight_one log vals

  -- the rule
  pub record Whole (about : About) (words : List ℕ) (vals : List (CellValue F S)) (views : List SeatView) : Type 0 where
    pub log : List Entry
    pub ruled : Ruled w about log words vals views
    pub books : Books log vals views
    pub counted : Counted log vals views
