-- What a seat shows.
use Rattle.std.specs.Prelude.{◌≡◌, ℕ, suc, List, Option}
use Rattle.atomic_table.specs.Seated.{TableId}
use Rattle.ruled_cells.specs.{Turning.HasTurn, Turning.NoTurn, declared.about.SeatView.SeatView, declared.cell_value.CellValue.CellValue}
use Rattle.ruled_cells.specs.declared.{cell_value.CellValue.TheVariants.First, cell_value.CellValue.TheVariants.Rest, seat.Seat.Seat}

module _ {F S : Type 0} where
  abbrev pub seat_number : Seat F S → ℕ
  seat_number s = s.number

  -- how many seats were made with it
  abbrev pub among_of : Seat F S → ℕ
  among_of s = s.token.me.0.among

  -- which cells it is a seat of
  abbrev pub place_of : Seat F S → TableId
  place_of s = s.token.table_id

  abbrev pub seat_view : Seat F S → SeatView
  seat_view s = s.token.me.0.client

  -- the turns that it has, each with the value that was taken. Cell 0 is the first one, and cell i + 1 that of index i
  abbrev pub turns_of : Seat F S → List (Option (CellValue F S))
  turns_of s = s.token.me.0.taken

  -- how often it tried to get a turn, and what the last try read: 0, or the number of another seat plus 1
  abbrev pub tries_of : Seat F S → ℕ
  tries_of s = s.token.me.0.tries

  -- the cell whose turn the last try read
  abbrev pub tried_at : Seat F S → ℕ
  tried_at s = s.token.me.0.at

  abbrev pub saw_of : Seat F S → ℕ
  saw_of s = s.token.me.0.saw

  pub record IsSameSeat (s t : Seat F S) : Type 0 where
    pub number : seat_number t ≡ seat_number s
    pub among : among_of t ≡ among_of s
    pub place : place_of t ≡ place_of s

  -- it tried to get no turn
  pub record IsNoTry (s t : Seat F S) : Type 0 where
    pub tries : tries_of t ≡ tries_of s
    pub saw : saw_of t ≡ saw_of s
    pub at : tried_at t ≡ tried_at s

  abbrev pub HasFirst : Seat F S → F → Type 0
  HasFirst s f = HasTurn (turns_of s) 0 (First f)

  abbrev pub HasCell : Seat F S → ℕ → S → Type 0
  HasCell s i x = HasTurn (turns_of s) (suc i) (Rest x)

  abbrev pub NoFirst : Seat F S → Type 0
  NoFirst s = NoTurn (turns_of s) 0

  abbrev pub NoCell : Seat F S → ℕ → Type 0
  NoCell s i = NoTurn (turns_of s) (suc i)

  abbrev pub NoTurns : Seat F S → Type 0
  NoTurns s = (k : ℕ) → NoTurn (turns_of s) k
