-- What the device keeps of a granule, and what each effect of a command or scrub makes of it.
use Rattle.std.specs.Prelude.{◌≡◌, ℕ, Bool, true, ◌&&◌, ◌||◌, List, fold, Option, Some, None, if◌then◌else◌}
use Rattle.cci_codec.specs.dcd_base.specs.{Words.has_granule, declared.capacity.Extent.Extent, declared.capacity.Tag.Tag, declared.ids.HostId.HostId, declared.media.Run.Run}
use Rattle.extent_list.specs.media_map.specs.{region_config.specs.Configurations.Configuration, region_config.specs.Granules.region_of, region_config.specs.Granules.region_spec, Places.run_in}
use Rattle.granule_map.specs.{declared.states.GranuleState.GranuleState, Tables.Cell, Tables.given, Tables.settled, Tables.soiled, Tables.zeroed}
use Rattle.journal_core.specs.{Holders.is_soiled, Holders.is_taken, declared.outcome.Effect.Effect}
use Rattle.device_rules.specs.Tags.{Dirty, Free, Held, Offered, Status, Tagged, status}

-- the status that a state stands for, whoever it names
abbrev pub status_of : GranuleState → Status
status_of GranuleState.Free = Free
status_of (GranuleState.Reserved h) = Offered
status_of (GranuleState.Held h) = Held
status_of (GranuleState.Tagged t) = Tagged
status_of GranuleState.Dirty = Dirty

-- whether the granule has to be zeroed before it is free: it was taken where regions sanitize, or soiled
abbrev pub is_unclean : Configuration → ℕ → List Effect → Bool
is_unclean c g past = ((region_spec c (region_of c g)).sanitize && is_taken g past) || is_soiled g past

-- What is kept of the granule is what the effects so far say of it.
pub record IsCell (c : Configuration) (past : List Effect) (g : ℕ) (cell : Cell) : Type 0 where
  pub status_is : status_of cell.state ≡ status c g past
  pub unclean_is : cell.unclean ≡ is_unclean c g past

-- ---- what an effect makes of it

-- a change of the granules of a run
abbrev pub in_run : Run → (Cell → Cell) → ℕ → Cell → Cell
in_run run change g cell = if has_granule run g then change cell else cell

-- whether hosts can share the run, and whether its region sanitizes
abbrev pub is_shareable_run : Configuration → Run → Bool
is_shareable_run c run = (region_spec c (region_of c run.first)).shareable

abbrev pub is_sanitizing_run : Configuration → Run → Bool
is_sanitizing_run c run = (region_spec c (region_of c run.first)).sanitize

-- what is offered belongs to its tag where hosts can share it, and else is reserved for the host
abbrev pub offered_run : Configuration → HostId → Tag → ℕ → Cell → Option Run → Cell
offered_run c h t g cell None = cell
offered_run c h t g cell (Some run) = in_run run (given (if is_shareable_run c run then GranuleState.Tagged t else GranuleState.Reserved h)) g cell

abbrev pub offered_extent : Configuration → HostId → ℕ → Cell → Extent → Cell
offered_extent c h g cell x = offered_run c h x.tag g cell (run_in c h x.start x.length)

-- what was offered to one host alone is offered no longer
abbrev pub unoffered_run : Configuration → ℕ → Cell → Option Run → Cell
unoffered_run c g cell None = cell
unoffered_run c g cell (Some run) = if is_shareable_run c run then cell else in_run run settled g cell

abbrev pub unoffered_extent : Configuration → HostId → ℕ → Cell → Extent → Cell
unoffered_extent c h g cell x = unoffered_run c g cell (run_in c h x.start x.length)

-- what is taken is held, unless hosts can share it, and has to be zeroed where the region sanitizes
abbrev pub taken : Configuration → HostId → Run → Cell → Cell
taken c h run cell = record {
  state = if is_shareable_run c run then cell.state else GranuleState.Held h;
  unclean = if is_sanitizing_run c run then true else cell.unclean;
}

-- what leaves a host is held no longer, unless hosts can share it
abbrev pub left : Configuration → Run → Cell → Cell
left c run cell = if is_shareable_run c run then cell else settled cell

-- what is soiled has to be zeroed, at once where nobody can share it
abbrev pub soiled_run : Configuration → Run → Cell → Cell
soiled_run c run cell = if is_shareable_run c run then soiled cell else settled (soiled cell)

-- a tag that ended has its granules no longer
abbrev pub ended_run : ℕ → Cell → Run → Cell
ended_run g cell run = in_run run settled g cell

-- One effect, by each host's oldest offer and each open tag's runs before the command.
abbrev pub cell_after : Configuration → (HostId → List Extent) → (Tag → List Run) → ℕ → Cell → Effect → Cell
cell_after c oldest runs g cell (Effect.Offer h xs) = fold (offered_extent c h g) cell xs
cell_after c oldest runs g cell (Effect.Answer h xs) = fold (unoffered_extent c h g) cell (oldest h)
cell_after c oldest runs g cell (Effect.Take h run) = in_run run (taken c h run) g cell
cell_after c oldest runs g cell (Effect.Leave h run) = in_run run (left c run) g cell
cell_after c oldest runs g cell (Effect.Soil run) = in_run run (soiled_run c run) g cell
cell_after c oldest runs g cell (Effect.Zero run) = in_run run zeroed g cell
cell_after c oldest runs g cell (Effect.TagEnd t) = fold (ended_run g) cell (runs t)
cell_after c oldest runs g cell e = cell

-- the effects of a step, in order
abbrev pub cell_over : Configuration → (HostId → List Extent) → (Tag → List Run) → ℕ → Cell → List Effect → Cell
cell_over c oldest runs g cell new = fold (cell_after c oldest runs g) cell new
