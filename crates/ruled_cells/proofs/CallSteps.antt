-- From the laws of the traits to the steps of the calls.
use Rattle.std.proofs.Common.{◌≡◌, ℕ, zero, suc, ◌+◌, false, List, length, sym, ◌∙◌, subst, arith, Option}
use Rattle.dcd_base.specs.declared.steps.Actor.{Actor}
use Rattle.journal_core.specs.declared.entries.Entry.{Entry}
use Rattle.ruled_cells.{proofs.RuleSteps.Laws, proofs.WholeSteps.gives_first, proofs.WholeSteps.gives_shard, proofs.WholeSteps.notes, specs.Booking.Whole}
use Rattle.ruled_cells.specs.{Laws.AccessEnters, Laws.ChangeIs, Laws.Stays, Laws.AccessKeeps, Laws.ChangeMakes, Reads.ChiefReads, Reads.MemberReads, Ruling.Names, Ruling.names, Ruling.access_cell}
use Rattle.ruled_cells.specs.Telling.{MayNote, MayGiveFirst, MayGive, noted_as, gave_first, gave_shard, took_first, ToldFirst}
use Rattle.ruled_cells.specs.{Turning.HasTurn, Turning.GivesTurn, Turning.Marks, Turning.Seated, Turning.IsTakenInTheEnd, declared.about.About.About, declared.about.SeatView.SeatView}
use Rattle.ruled_cells.specs.declared.cell_value.CellValue.{CellValue, TheVariants.First, TheVariants.Rest}

module _ {F S : Type 0} (chief : ChiefReads F) (member : MemberReads S) where
  abbrev w : Names F S
  w = names chief member

  enters_cell : AccessEnters member.config member.entries member.clock member.belongs member.access → AccessEnters member.config member.entries member.clock w.belongs (access_cell member.access)
  enters_cell l zero seat actor x y h = absurd h
  enters_cell l (suc i) seat actor x y h = let r = l i seat actor x y h in record { entry = r.entry; config_is = r.config_is; entries_are = r.entries_are; belongs_here = r.belongs_here; access = r.access; counted = r.counted; pass = r.pass; actor_is = r.actor_is; clock_is = r.clock_is }

  stays_cell : Stays member.entries member.clock member.touches member.right → Stays member.entries member.clock w.touches w.right
  stays_cell l zero x log e control tidy low t r = tt
  stays_cell l (suc i) x log e control tidy low t r = l i x log e control tidy low t r

  keeps_cell : AccessKeeps member.entries member.clock member.right member.access → AccessKeeps member.entries member.clock w.right (access_cell member.access)
  keeps_cell l zero seat actor x y log control tidy above h r = tt
  keeps_cell l (suc i) seat actor x y log control tidy above h r = l i seat actor x y log control tidy above h r

  makes_cell : ChangeMakes member.entries member.clock member.right member.change → ChangeMakes member.entries member.clock w.right member.change
  makes_cell l zero x y log e control tidy above h r = tt
  makes_cell l (suc i) x y log e control tidy above h r = l i x y log e control tidy above h r

  pub laws_of : AccessEnters member.config member.entries member.clock member.belongs member.access → ChangeIs member.config member.entries member.clock member.change → Stays member.entries member.clock member.touches member.right → AccessKeeps member.entries member.clock member.right member.access → ChangeMakes member.entries member.clock member.right member.change
      → Laws w (access_cell member.access) member.change
  laws_of enters changes stays keeps makes = record { enters = enters_cell enters; changes = changes; stays = stays_cell stays; keeps = keeps_cell keeps; makes = makes_cell makes }

module _ {F S : Type 0} (w : Names F S) where
  pub told_first : (k : ℕ) (v v' : SeatView) (x : CellValue F S) (f : F) → x ≡ First f → took_first w k v x x v' → ToldFirst w v f
  told_first k v v' x f is t = let same : t.0 ≡ f = (let p = t.1 in cc) in subst (ToldFirst w v) same record { sound = t.3; about_is = t.4; control = t.5; seen = t.6 }

  pub told_in_the_end : (m n : Seated (CellValue F S) SeatView) (x : CellValue F S) (f : F) → x ≡ First f → IsTakenInTheEnd (took_first w) 0 m x n → ToldFirst w m.0.client f
  told_in_the_end m n x f is t = told_first 0 m.0.client t.3.0 x f is t.3.3

module _ {F S : Type 0} (w : Names F S) (about : About) where
  abbrev Holds : List ℕ → List (CellValue F S) → List SeatView → Type 0
  Holds = Whole w about

  next : (k : ℕ) → suc k ≡ k + 1
  next k = omega arith

  -- with the number of cells and the number of the cell as the code counts them
  pub gives_first_back : (row slots id : ℕ) (taken : List (Option (CellValue F S))) (v : SeatView) (f g : F) → slots ≡ row + 1 → v.spent ≡ false → HasTurn taken 0 (First f) → MayGiveFirst w (suc row) v f g
      → (x : CellValue F S) × HasTurn taken 0 x × GivesTurn Holds slots id taken v 0 x (First g) (gave_first w)
  gives_first_back row slots id taken v f g is used turn may = (First f, turn, gives_first w about slots id taken v f g used turn (subst (λ (n : ℕ). MayGiveFirst w n v f g) (next row ∙ sym is) may))

  module _ (access : ℕ → ℕ → Actor → S → S → Type 0) (change : Entry → S → S → Type 0) (laws : Laws w access change) where
    pub gives_back : (index cells id : ℕ) (taken : List (Option (CellValue F S))) (v : SeatView) (a b : S) → v.spent ≡ false → HasTurn taken (suc index) (Rest a) → MayGive w access change (suc index) id taken v a b
        → (x : CellValue F S) × HasTurn taken (index + 1) x × GivesTurn Holds cells id taken v (index + 1) x (Rest b) (gave_shard w)
    gives_back index cells id taken v a b used turn may = subst (λ (k : ℕ). (x : CellValue F S) × HasTurn taken k x × GivesTurn Holds cells id taken v k x (Rest b) (gave_shard w)) (next index)
        (Rest a, turn, gives_shard w about access change laws cells id (suc index) taken v a b used turn may)

    pub notes_at : (row slots id value : ℕ) (taken : List (Option (CellValue F S))) (v : SeatView) (f g : F) (e : Entry) → slots ≡ row + 1 → value ≡ length (w.journal g) → v.spent ≡ false → MayNote w (suc row) id taken v f g e
        → Marks Holds slots id taken v value (noted_as e)
    notes_at row slots id value taken v f g e is count used may = subst (λ (n : ℕ). Marks Holds slots id taken v n (noted_as e)) (sym count)
        (notes w about access change laws slots id taken v f g e used (subst (λ (n : ℕ). MayNote w n id taken v f g e) (next row ∙ sym is) may))
