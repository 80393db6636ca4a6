-- What the rule of the cells reads of the values that they hold. A cell of the row has an index, from 0.
use Rattle.std.specs.Prelude.{ℕ, Bool, List}
use Rattle.dcd_base.specs.declared.steps.{Stamp.Stamp, Actor.Actor}
use Rattle.region_config.specs.Configurations.{Configuration}
use Rattle.journal_core.specs.declared.entries.Entry.{Entry}
use Rattle.ruled_cells.specs.declared.about.About.{About}

pub record ChiefReads (F : Type 0) : Type 1 where
  -- the journal of the commands and scrubs that the first cell holds
  pub journal : F → List Entry
  -- the configuration that it was made with
  pub config : F → Configuration
  -- the actor of each seat, by the seat's number
  pub actors : F → List Actor
  -- what makes the journal sound for it
  pub sound : F → Type 0

pub record MemberReads (S : Type 0) : Type 1 where
  -- the configuration that the cell was made with
  pub config : S → Configuration
  -- the loads and stores that it holds, and its clock
  pub entries : S → List Entry
  pub clock : S → Stamp
  -- whether an entry of the first cell's journal touches the cell of an index
  pub touches : ℕ → Entry → Bool
  -- an access belongs to the cell of an index, under a configuration
  pub belongs : Configuration → ℕ → Entry → Type 0
  -- it is the right value of the cell of an index for a journal of the first cell, and so are its entries
  pub right : ℕ → S → List Entry → Type 0
  -- an old and a new value differ by one access to the cell of an index, by the seat of a number and its actor
  pub access : ℕ → ℕ → Actor → S → S → Type 0
  -- an old and a new value differ by what an entry of the journal does to the cell
  pub change : Entry → S → S → Type 0

-- what never changes of cells that were made with the value of a first cell
abbrev pub about_of : {F : Type 0} → ChiefReads F → F → About
about_of reads first = record { config = reads.config first; actors = reads.actors first }
