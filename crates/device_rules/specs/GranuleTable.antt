-- That what is kept of a granule stays right.
use Rattle.std.specs.Prelude.{◌≡◌, ℕ, ◌<◌, true, List, [], ◌∷◌, ◌++◌}
use Rattle.cci_codec.specs.dcd_base.specs.{declared.capacity.Extent.Extent, declared.capacity.Tag.Tag, declared.ids.HostId.HostId, declared.media.Run.Run, Words.has_tag}
use Rattle.extent_list.specs.media_map.specs.region_config.specs.{Configurations.Configuration, Granules.granule_total}
use Rattle.offer_core.specs.Offerings.{oldest_of}
use Rattle.granule_map.specs.Tables.{Cell}
use Rattle.journal_core.specs.{Entries.effects, declared.entries.Entry.Entry}
use Rattle.device_rules.specs.{Hosts.offers_of, Tags.last_offer, Tags.open_tags, Tags.tag_runs, GranuleCells.IsCell, GranuleCells.cell_over}

-- These are the oldest offers, and the runs of the open tags.
pub record AreKnown (c : Configuration) (before : List Entry) (oldest : HostId → List Extent) (runs : Tag → List Run) : Type 0 where
  pub offers : (h : HostId) → oldest h ≡ oldest_of (offers_of h (effects before))
  pub tags : (t : Tag) → has_tag (open_tags c (effects before)) t ≡ true → runs t ≡ tag_runs c (last_offer t (effects before))

-- What is kept of each granule is right after one more entry, once each of its effects has changed it.
abbrev pub StaysRight : Configuration → List Entry → Entry → Type 0
StaysRight c before e =
    (oldest : HostId → List Extent) (runs : Tag → List Run) → AreKnown c before oldest runs →
    (g : ℕ) → g < granule_total c → (cell : Cell) → IsCell c (effects before) g cell →
    IsCell c (effects (before ++ e ∷ [])) g (cell_over c oldest runs g cell e.effects)
