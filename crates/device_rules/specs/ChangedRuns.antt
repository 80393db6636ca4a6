-- What a step changes of holders and words, as a list of runs.
use Rattle.std.specs.Prelude.{◌≡◌, ℕ, suc, ◌+◌, ◌<◌, ◌≤◌, Bool, All, false, ◌&&◌, List, ◌++◌, fold, if◌then◌else◌, length}
use Rattle.std.specs.List.{list_any}
use Rattle.cci_codec.specs.dcd_base.specs.{Words.has_granule, declared.ids.HostId.HostId, declared.media.Change.Change, declared.media.Run.Run, Hosts.has_host}
use Rattle.extent_list.specs.media_map.specs.region_config.specs.{Configurations.Configuration, Granules.first_granule, Granules.granule_total}
use Rattle.journal_core.specs.{Holders.holds, declared.outcome.Effect.Effect}
use Rattle.device_rules.specs.Legal.{is_zeroing}

-- the holders of a granule after one change, a bit for each host
abbrev pub holders_after : ℕ → ℕ → Change → ℕ
holders_after g bits change = if has_granule change.run g then change.holders else bits

-- whether the effect gives or takes the granule, or zeroes it
abbrev pub touches : ℕ → Effect → Bool
touches g (Effect.Take h run) = has_granule run g
touches g (Effect.Leave h run) = has_granule run g
touches g (Effect.Zero run) = has_granule run g
touches g e = false

-- The change names granules of the device alone, which has so many.
abbrev pub LiesIn : ℕ → Change → Type 0
LiesIn n change = change.run.first + change.run.count ≤ n

-- The bits say which hosts hold the granule.
abbrev pub AreHolders : Configuration → ℕ → List Effect → ℕ → Type 0
AreHolders c g past bits = (h : HostId) → h < c.hosts → has_host bits h ≡ holds h g past

-- The run lies in one region.
pub record IsWithinRegion (c : Configuration) (run : Run) : Type 0 where
  pub region : ℕ
  pub known : region < length c.regions
  pub from : first_granule c region ≤ run.first
  pub to : run.first + run.count ≤ first_granule c (suc region)

-- The change names some granules, all of one region, and holders that the device has.
pub record IsSoundChange (c : Configuration) (change : Change) : Type 0 where
  pub some : 0 < change.run.count
  pub region : IsWithinRegion c change.run
  pub hosts : (h : HostId) → c.hosts ≤ h → has_host change.holders h ≡ false

-- One after another the changes leave the holders that the effects leave, they zero the granules that the effects
-- zero, and name no others than those that the effects give, take or zero. Each names some granules of one region, and
-- hosts of the device alone.
pub record AreChanges (c : Configuration) (past new : List Effect) (changes : List Change) : Type 0 where
  pub holders : (g : ℕ) → g < granule_total c → (bits : ℕ) → AreHolders c g past bits → AreHolders c g (past ++ new) (fold (holders_after g) bits changes)
  pub zeroed : (g : ℕ) → g < granule_total c → list_any (λ (change : Change). change.zero && has_granule change.run g) changes ≡ list_any (is_zeroing g) new
  pub touched : (g : ℕ) → g < granule_total c → list_any (λ (change : Change). has_granule change.run g) changes ≡ list_any (touches g) new
  pub sound : All (IsSoundChange c) changes
