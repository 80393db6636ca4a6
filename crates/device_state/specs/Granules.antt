-- What the device keeps of its granules, changed granule by granule.
use Rattle.std.specs.Prelude.{◌≡◌, ℕ, ◌<◌, ◌≤◌, ◌&&◌, Bool, true, not, nat_lt, if◌then◌else◌, length, List, Option, Some, None}
use Rattle.cci_codec.specs.dcd_base.specs.declared.{capacity.Tag.Tag, media.Run.Run, ids.HostId.HostId}
use Rattle.extent_list.specs.media_map.specs.region_config.specs.{Configurations.Configuration, Granules.granule_total, Granules.region_of, Granules.region_spec}
use Rattle.extent_list.specs.media_map.specs.region_config.specs.declared.region_spec.RegionSpec.{RegionSpec}
use Rattle.device_rules.specs.GranuleCells.{is_shareable_run, cell_after, cell_over}
use Rattle.granule_map.specs.{Tables.Cell, Tables.CellTable, Tables.cell_at, Tables.soiled, Tables.given, declared.states.GranuleState.GranuleState}
use Rattle.journal_core.specs.declared.outcome.Effect.{Effect}
use Rattle.device_state.specs.{Entered.oldest_in, Entered.runs_in, declared.regions.LastRegion.LastRegion, declared.regions.RegionFlags.RegionFlags, declared.state.State.State}

-- Each granule of the table becomes what the change makes of it.
pub record AreChanged (change : ℕ → Cell → Cell) (old new : CellTable) : Type 0 where
  pub granules : length new.states ≡ length old.states
  pub each : (g : ℕ) → g < length old.states → cell_at new g ≡ change g (cell_at old g)

-- whether the run begins at a granule of the device, in a region that hosts cannot share
abbrev pub is_private : Configuration → Run → Bool
is_private c run = nat_lt run.first (granule_total c) && not (is_shareable_run c run)

-- what is taken has to be zeroed where its region sanitizes
abbrev pub soiled_by_taking : RegionFlags → Cell → Cell
soiled_by_taking r cell = if r.sanitize then soiled cell else cell

-- what is taken is held, unless hosts can share it
abbrev pub held_by_taking : RegionFlags → HostId → Cell → Cell
held_by_taking r h cell = if r.shareable then cell else given (GranuleState.Held h) cell

-- what the host makes of a granule that it takes in a region
abbrev pub taken_in : RegionFlags → HostId → Cell → Cell
taken_in r h cell = record {
  state = if r.shareable then cell.state else GranuleState.Held h;
  unclean = if r.sanitize then true else cell.unclean;
}

-- what is offered in a region belongs to its tag where hosts can share it, and else is reserved for the host
abbrev pub offered_in : RegionFlags → HostId → Tag → Cell → Cell
offered_in r h t cell = given (if r.shareable then GranuleState.Tagged t else GranuleState.Reserved h) cell

-- what becomes of the granules of the region that a granule lies in, where it is one of the device
abbrev pub flags_of : RegionSpec → RegionFlags
flags_of r = record { sanitize = r.sanitize; shareable = r.shareable }

abbrev pub flags_found : Configuration → ℕ → Option RegionFlags
flags_found c g = if nat_lt g (granule_total c) then Some (flags_of (region_spec c (region_of c g))) else None

-- It is known of each granule from the first up to the one before the end.
pub record IsLastRegion (c : Configuration) (last : LastRegion) : Type 0 where
  pub known : (g : ℕ) → last.first ≤ g → g < last.end → flags_found c g ≡ Some last.flags

-- The granules are changed by an effect, or by more of them, from the offers and the runs of open tags that are kept.
abbrev pub CellsAfter : Configuration → Effect → State → CellTable → Type 0
CellsAfter c e old new = AreChanged (λ g cell. cell_after c (oldest_in old) (runs_in old) g cell e) old.granules new

abbrev pub CellsOver : Configuration → List Effect → State → CellTable → Type 0
CellsOver c es old new = AreChanged (λ g cell. cell_over c (oldest_in old) (runs_in old) g cell es) old.granules new
