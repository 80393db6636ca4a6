-- What the cells show, and which seats are theirs.
use Rattle.std.specs.Prelude.{◌≡◌, ℕ, suc, ◌<◌, ◌≤◌, List, [], length}
use mathlib.Core.Option.{some}
use lib.ListN.{get_elem?}
use Rattle.ruled_cells.specs.{Booking.Fits, Reads.ChiefReads, Reads.MemberReads, Resting.Accounts, Ruling.access_cell, Ruling.names}
use Rattle.ruled_cells.specs.Seats.{HasCell, HasFirst, NoTurns, among_of, seat_number, place_of, turns_of, seat_view}
use Rattle.ruled_cells.specs.{Telling.GaveCell, Telling.MayGive, Telling.MayGiveFirst, Telling.MayNote, Telling.fresh_seat, Telling.values, declared.about.About.About}
use Rattle.ruled_cells.specs.declared.{about.SeatView.SeatView, cells.Cells.Cells, seat.Seat.Seat}
use Rattle.journal_core.specs.declared.entries.Entry.{Entry}

module _ {F S : Type 0} where
  -- how many cells there are beside the first
  abbrev pub row_of : Cells F S → ℕ
  row_of cells = cells.row

  -- how many seats were made with them
  abbrev pub seats_of : Cells F S → ℕ
  seats_of cells = cells.table.shared.key.seats

  -- the first cell as it was when they were made
  abbrev pub opened_with : Cells F S → F
  opened_with cells = cells.table.shared.key.first

  -- the seat is one that was made with the cells
  pub record IsOf (cells : Cells F S) (s : Seat F S) : Type 0 where
    pub place : place_of s ≡ cells.table.shared.table_id
    pub among : among_of s ≡ seats_of cells

  -- the k-th seat, as it was made
  pub record IsNew (cells : Cells F S) (about : About) (k : ℕ) (s : Seat F S) : Type 0 where
    pub of : IsOf cells s
    pub number : seat_number s ≡ k
    pub view : seat_view s ≡ fresh_seat k about
    pub no_turns : NoTurns s

  -- the others than seat 0, in the order of their numbers
  abbrev pub AreOthers : Cells F S → About → List (Seat F S) → Type 0
  AreOthers cells about seats = (k : ℕ) (s : Seat F S) → get_elem? seats k ≡ some s → IsNew cells about (suc k) s

  -- all seats, in the order of their numbers
  abbrev pub AreNew : Cells F S → About → List (Seat F S) → Type 0
  AreNew cells about seats = (k : ℕ) (s : Seat F S) → get_elem? seats k ≡ some s → IsNew cells about k s

  -- these are all seats of the cells, and none has a turn
  pub record AreAll (cells : Cells F S) (seats : List (Seat F S)) : Type 0 where
    pub some_seat : 0 < length seats
    pub of : (k : ℕ) (s : Seat F S) → get_elem? seats k ≡ some s → IsOf cells s
    pub no_turns : (k : ℕ) (s : Seat F S) → get_elem? seats k ≡ some s → NoTurns s
    pub each : (i : ℕ) → i < seats_of cells → (k : ℕ) × (s : Seat F S) × (get_elem? seats k ≡ some s) × (seat_number s ≡ i)

module _ {F S : Type 0} (chief : ChiefReads F) (member : MemberReads S) where
  -- the seat may note the entry that the first cell gained, whose value is now `first`
  abbrev pub MayNoteIn : Cells F S → Seat F S → F → Entry → Type 0
  MayNoteIn cells s first e = (taken : F) × MayNote (names chief member) (suc (row_of cells)) (seat_number s) (turns_of s) (seat_view s) taken first e

  -- the seat may give the first cell back as `first`
  abbrev pub MayGiveFirstIn : Cells F S → Seat F S → F → Type 0
  MayGiveFirstIn cells s first = (taken : F) × HasFirst s taken × MayGiveFirst (names chief member) (suc (row_of cells)) (seat_view s) taken first

  -- the seat may give the cell of an index back as `value`
  abbrev pub MayGiveIn : Seat F S → ℕ → S → Type 0
  MayGiveIn s index value = (taken : S) × HasCell s index taken
      × MayGive (names chief member) (access_cell member.access) member.change (suc index) (seat_number s) (turns_of s) (seat_view s) taken value

  -- it was told that it gave the cell of an index back as `value`
  abbrev pub GaveIn : Seat F S → ℕ → S → SeatView → Type 0
  GaveIn s index value view = (taken : S) × HasCell s index taken × GaveCell (names chief member) (suc index) (seat_view s) taken value view

  -- the calls of each seat are its entries in the values that the cells hold at the end
  abbrev pub AccountFor : F → List S → List (Seat F S) → Type 0
  AccountFor first row seats = (k : ℕ) (s : Seat F S) → get_elem? seats k ≡ some s → Accounts (names chief member) first row (seat_view s).number (seat_view s).calls

  -- no entry is of a seat that was not made
  abbrev pub NoOthers : Cells F S → F → List S → Type 0
  NoOthers cells first row = (j : ℕ) → seats_of cells ≤ j → Fits (names chief member) (chief.journal first) (values first row) j []
