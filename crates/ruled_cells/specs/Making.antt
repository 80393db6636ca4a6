-- Seat 0 while it fills the cells and makes the other seats.
use Rattle.std.specs.Prelude.{◌≡◌, ◌⊎◌, ℕ, suc, ◌<◌, List, [], length, None, true}
use mathlib.Core.Option.{some}
use lib.ListN.{get_elem?}
use Rattle.ruled_cells.specs.{Telling.fresh_seat, Turning.HasTurn, Turning.NoTurn, Turning.Seated, Turning.IsIn, declared.about.About.About, declared.about.SeatView.SeatView}
use Rattle.ruled_cells.specs.declared.cell_value.CellValue.{CellValue, TheVariants.Rest}

module _ {F S : Type 0} where
  -- so many seats are made
  pub record IsMaker (among made : ℕ) (about : About) (m : Seated (CellValue F S) SeatView) : Type 0 where
    pub number : m.0.number ≡ 0
    pub among_is : m.0.among ≡ among
    pub live : m.0.live ≡ true
    pub still : m.0.moving ≡ None
    pub makes : m.0.makes ≡ true
    pub made_is : m.0.made ≡ made
    pub client : m.0.client ≡ fresh_seat 0 about
    pub bare : m.1 ≡ []

  -- and it still has the turns of these cells of the row
  pub record IsFilling (rest : List S) (m : Seated (CellValue F S) SeatView) : Type 0 where
    pub turn : (k : ℕ) (x : S) → get_elem? rest k ≡ some x → HasTurn m.0.taken (suc k) (Rest x)
    pub no_turn : (k : ℕ) → length rest < k → NoTurn m.0.taken k

  -- a cell is given back as it was taken
  abbrev pub fills : ℕ → SeatView → CellValue F S → CellValue F S → SeatView → Type 0
  fills k v x y after = after ≡ v

  -- s is the seat m, or was taken in by it
  abbrev pub IsGathered : Seated (CellValue F S) SeatView → ℕ → SeatView → Type 0
  IsGathered m number v = ((m.0.number ≡ number) × (m.0.client.number ≡ v.number) × (m.0.client.calls ≡ v.calls)) ⊎ (IsIn number m.0.joined × ((k : ℕ) × (get_elem? m.0.client.kept k ≡ some (v.number, v.calls))))
