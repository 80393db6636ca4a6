-- What a call asks, and what it tells.
use Rattle.std.specs.Prelude.{◌≡◌, ◌⊎◌, ℕ, suc, ◌+◌, ◌^◌, ◌<◌, ◌≤◌, true, false, List, [], ◌∷◌, ◌++◌, map, length, Option, Some, None}
use mathlib.Core.Option.{some}
use lib.ListN.{get_elem?}
use Rattle.dcd_base.specs.declared.steps.Actor.{Actor}
use Rattle.journal_core.specs.{declared.entries.Entry.Entry, declared.acts.Act.Act, declared.acts.Reply.Reply, Entries.is_control}
use Rattle.ruled_cells.specs.{Laws.Tidy, Ruling.Names, Stamps.stamp, Stamps.Below, Stamps.IsControlLog, Stamps.stamps_after, Stamps.pending, Turning.HasTurn, declared.about.About.About}
use Rattle.ruled_cells.specs.declared.{about.SeatView.SeatView, cell_value.CellValue.CellValue, cell_value.CellValue.TheVariants.First, cell_value.CellValue.TheVariants.Rest}

-- ---- views

abbrev pub fresh_seat : ℕ → About → SeatView
fresh_seat number about = record { number = number; about = about; entry = None; changed = []; calls = []; seen = stamp 0 0; spent = false; kept = [] }

abbrev pub next_view : ℕ → SeatView → SeatView
next_view number v = fresh_seat number v.about

-- the seat got or gave back the turn of the first cell
abbrev pub begun : SeatView → SeatView
begun v = record v { entry = None; changed = [] }

abbrev pub noted_view : Entry → SeatView → SeatView
noted_view e v = record v { entry = Some e; changed = []; calls = v.calls ++ e ∷ []; seen = e.stamp }

abbrev pub changed_view : ℕ → SeatView → SeatView
changed_view k v = record v { changed = k ∷ v.changed }

abbrev pub entered_view : Entry → SeatView → SeatView
entered_view e v = record v { calls = v.calls ++ e ∷ []; seen = e.stamp }

-- a seat takes another in
abbrev pub joint_view : SeatView → SeatView → SeatView
joint_view v u = record v { kept = (u.number, u.calls) ∷ (v.kept ++ u.kept) }

abbrev pub no_about : About
no_about = record { config = record { hosts = 0; regions = []; bases = [] }; actors = [] }

-- what is left of the view of a seat that was taken in
abbrev pub spent_view : SeatView
spent_view = record (fresh_seat 0 no_about) { spent = true }

-- the seat noted e
abbrev pub noted_as : Entry → SeatView → SeatView → Type 0
noted_as e v v' = (v' ≡ noted_view e v) × Below v.seen e.stamp

abbrev pub no_entry : Entry
no_entry = record { pass = 0; line = 0; actor = Actor.Manager; act = Act.Load 0; reply = Reply.Stored; effects = []; stamp = stamp 0 0 }

-- the last entry of a journal that has one
abbrev pub last_of : List Entry → Entry
last_of [] = no_entry
last_of (e ∷ []) = e
last_of (e ∷ es) = last_of es

-- ---- the values that cells are made of

abbrev pub values : {F S : Type 0} → F → List S → List (CellValue F S)
values first rest = First first ∷ map (λ x. Rest x) rest

module _ {F S : Type 0} (w : Names F S) where
  pub record MayOpen (first : F) (rest : List S) : Type 0 where
    pub sound : w.sound first
    pub empty : w.journal first ≡ []
    pub bare : (k : ℕ) (x : S) → get_elem? rest k ≡ some x → (w.entries x ≡ []) × (w.clock x ≡ stamp 0 0) × (w.config_of x ≡ (w.about first).config) × w.right (suc k) x []

  -- ---- taking

  abbrev pub took_first : ℕ → SeatView → CellValue F S → CellValue F S → SeatView → Type 0
  took_first k v x y v' = (f : F) × (x ≡ First f) × (v' ≡ begun v) × w.sound f × (w.about f ≡ v.about) × IsControlLog (w.journal f) × (v.seen.number ≤ length (w.journal f))

  abbrev pub took_shard : ℕ → SeatView → CellValue F S → CellValue F S → SeatView → Type 0
  took_shard k v x y v' = (s : S) × (x ≡ Rest s) × (v' ≡ v) × (w.config_of s ≡ v.about.config) × Tidy w.entries w.clock s × (v.seen.count + 1 < 2 ^ 64) × ((w.clock s).count + 1 < 2 ^ 64)

  -- ---- noting

  -- the seat has taken the first cell f, and g is f with the entry e
  pub record MayNote (cells id : ℕ) (taken : List (Option (CellValue F S))) (v : SeatView) (f g : F) (e : Entry) : Type 0 where
    pub turn : HasTurn taken 0 (First f)
    pub not_yet : v.entry ≡ None
    pub about_is : w.about g ≡ w.about f
    pub sound : w.sound g
    pub longer : w.journal g ≡ w.journal f ++ e ∷ []
    pub control : is_control e.act ≡ true
    pub stamp_is : e.stamp ≡ stamp (length (w.journal g)) 0
    pub pass : e.pass ≡ id
    pub actor : get_elem? v.about.actors id ≡ some e.actor
    pub room : length v.calls < 2 ^ 32
    pub turns : (k : ℕ) → 0 < k → k < cells → w.touches k e ≡ true → (x : CellValue F S) × HasTurn taken k x

  -- ---- giving back

  pub record MayGiveFirst (cells : ℕ) (v : SeatView) (f g : F) : Type 0 where
    pub about_is : w.about g ≡ w.about f
    pub sound : w.sound g
    pub journal_is : w.journal g ≡ stamps_after (w.journal f) v.entry
    pub none_left : (k : ℕ) → 0 < k → k < cells → pending w.touches v.entry v.changed k ≡ false

  abbrev pub gave_first : ℕ → SeatView → CellValue F S → CellValue F S → SeatView → Type 0
  gave_first k v x y v' = v' ≡ begun v

  -- all that the names see of x is so of y: a cell in which memory was reserved is like the one taken
  pub record Alike (x y : S) : Type 0 where
    pub config_is : w.config_of y ≡ w.config_of x
    pub entries_are : w.entries y ≡ w.entries x
    pub clock_is : w.clock y ≡ w.clock x
    pub right_too : (k : ℕ) (log : List Entry) → w.right k x log → w.right k y log

  -- an access by this seat, whose stamp is above what it has seen and above the clock
  pub record MayEnter (access : ℕ → ℕ → Actor → S → S → Type 0) (k id : ℕ) (v : SeatView) (x y : S) : Type 0 where
    pub actor : Actor
    pub actor_is : get_elem? v.about.actors id ≡ some actor
    pub is_access : access k id actor x y
    pub above_seen : Below v.seen (w.clock y)
    pub above_clock : Below (w.clock x) (w.clock y)
    pub number : ((w.clock y).number ≡ v.seen.number) ⊎ ((w.clock y).number ≡ (w.clock x).number)
    pub counted : ((w.clock y).count ≤ v.seen.count + 1) ⊎ ((w.clock y).count ≤ (w.clock x).count + 1)
    pub room : length v.calls < 2 ^ 32

  -- the value x of the cell k may be handed back as y
  pub record MayGive (access : ℕ → ℕ → Actor → S → S → Type 0) (change : Entry → S → S → Type 0) (k id : ℕ) (taken : List (Option (CellValue F S))) (v : SeatView) (x y : S) : Type 0 where
    -- x is right for the journal of the first cell as it was taken
    pub at_pending : (e : Entry) → v.entry ≡ Some e → pending w.touches v.entry v.changed k ≡ true → ((f : F) → HasTurn taken 0 (First f) → w.right k x (w.journal f)) → change e x y
    pub at_others : pending w.touches v.entry v.changed k ≡ false → Alike x y ⊎ MayEnter access k id v x y

  -- it was handed back with the entries that it had, or with one more, of this seat
  abbrev pub gave_shard : ℕ → SeatView → CellValue F S → CellValue F S → SeatView → Type 0
  gave_shard k v x y v' = (a b : S) × (x ≡ Rest a) × (y ≡ Rest b)
      × (((w.entries b ≡ w.entries a) × (((pending w.touches v.entry v.changed k ≡ false) × (v' ≡ v)) ⊎ ((pending w.touches v.entry v.changed k ≡ true) × (v' ≡ changed_view k v))))
      ⊎ ((e : Entry) × (w.entries b ≡ w.entries a ++ e ∷ []) × (w.clock b ≡ e.stamp) × (v' ≡ entered_view e v)))

-- ---- the same, of the values alone

module _ {F S : Type 0} (w : Names F S) where
  -- what is told of the first cell that was taken
  pub record ToldFirst (v : SeatView) (f : F) : Type 0 where
    pub sound : w.sound f
    pub about_is : w.about f ≡ v.about
    pub control : IsControlLog (w.journal f)
    pub seen : v.seen.number ≤ length (w.journal f)

  -- what is told of a cell of the row that was taken
  pub record ToldCell (v : SeatView) (x : S) : Type 0 where
    pub config_is : w.config_of x ≡ v.about.config
    pub tidy : Tidy w.entries w.clock x
    pub seen : v.seen.count + 1 < 2 ^ 64
    pub clock : (w.clock x).count + 1 < 2 ^ 64

  -- the cell k, of which a was taken, was given back as b: with the entries that it had, or with one more, of this seat
  abbrev pub GaveCell : ℕ → SeatView → S → S → SeatView → Type 0
  GaveCell k v a b v' =
      ((w.entries b ≡ w.entries a) × (((pending w.touches v.entry v.changed k ≡ false) × (v' ≡ v)) ⊎ ((pending w.touches v.entry v.changed k ≡ true) × (v' ≡ changed_view k v))))
      ⊎ ((e : Entry) × (w.entries b ≡ w.entries a ++ e ∷ []) × (w.clock b ≡ e.stamp) × (v' ≡ entered_view e v))
