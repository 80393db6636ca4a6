-- The table of the granules, and what each change makes of it.
use Rattle.std.specs.Prelude.{◌≡◌, ℕ, ◌<◌, Bool, true, false, if◌then◌else◌, List, length, slice_index_or}
use Rattle.dcd_base.specs.{Words.has_granule, declared.media.Run.Run}
use Rattle.granule_map.specs.declared.states.GranuleState.{GranuleState}

-- one granule: its state, and whether it has to be zeroed before it is free
pub record Cell : Type 0 where
  pub state : GranuleState
  pub unclean : Bool

-- both by number, in the order of the granules
pub record CellTable : Type 0 where
  pub states : List GranuleState
  pub unclean : List Bool

abbrev pub cell_at : CellTable → ℕ → Cell
cell_at t g = record { state = slice_index_or t.states g GranuleState.Dirty; unclean = slice_index_or t.unclean g true }

-- ---- what a change makes of a granule

abbrev pub given : GranuleState → Cell → Cell
given s cell = record cell { state = s }

abbrev pub settled : Cell → Cell
settled cell = record cell { state = if cell.unclean then GranuleState.Dirty else GranuleState.Free }

abbrev pub soiled : Cell → Cell
soiled cell = record cell { unclean = true }

abbrev pub zeroed : Cell → Cell
zeroed cell = record { state = GranuleState.Free; unclean = false }

-- Each granule of the run that is in the table is changed so, and each other one is as it was.
pub record IsChanged (change : Cell → Cell) (run : Run) (old new : CellTable) : Type 0 where
  pub granules : length new.states ≡ length old.states
  pub each : (g : ℕ) → g < length old.states → cell_at new g ≡ (if has_granule run g then change (cell_at old g) else cell_at old g)
