-- What a command or a scrub makes of a shard.
use Rattle.std.specs.Prelude.{◌≡◌, ℕ, ◌/◌, ◌%◌, ◌<◌, ◌&&◌, List, [], fold, length, if◌then◌else◌}
use Rattle.std.specs.List.{list_any}
use Rattle.dcd_base.specs.{Hosts.has_host, Words.has_granule, declared.ids.HostId.HostId, declared.media.Change.Change}
use Rattle.device_rules.specs.{ChangedRuns.holders_after, Legal.is_zeroing}
use Rattle.granule_mem.specs.Contents.{IsFresh, Media, holders_in, word_in}
use Rattle.journal_core.specs.{declared.entries.Entry.Entry, Holders.holding_after}
use Rattle.region_config.specs.{Configurations.Configuration, Granules.granule_total}
use Rattle.ruled_cells.specs.Stamps.{stamp}
use Rattle.shard_laws.specs.Stripes.{Stripe, holders_at, stripe_word}

-- nothing was done to the shard
pub record IsFreshStripe (c : Configuration) (index : ℕ) (x : Stripe) : Type 0 where
  pub index_is : x.index ≡ index
  pub config_is : x.config ≡ c
  pub entries_are : x.entries ≡ []
  pub clock_is : x.clock ≡ stamp 0 0
  pub fresh : IsFresh x.media

-- ---- by the effects

-- As the cells have it: y is x with what the effects of the entry do to its granules. The clock is the entry's stamp.
pub record ChangedBy (e : Entry) (x y : Stripe) : Type 0 where
  pub index_is : y.index ≡ x.index
  pub config_is : y.config ≡ x.config
  pub entries_are : y.entries ≡ x.entries
  pub clock_is : y.clock ≡ e.stamp
  pub holders : (g : ℕ) → g < granule_total x.config → g % 16 ≡ x.index → (h : HostId) → h < x.config.hosts →
      has_host (holders_at y g) h ≡ fold (holding_after h g) (has_host (holders_at x g) h) e.effects
  pub words : (g w : ℕ) → g < granule_total x.config → g % 16 ≡ x.index →
      stripe_word y g w ≡ (if list_any (is_zeroing g) e.effects then 0 else stripe_word x g w)

-- ---- by a list of changes

-- The changes were made one after another to the granules of shard k.
pub record AreMadeIn (k : ℕ) (old new : Media) (changes : List Change) : Type 0 where
  pub granules : length new.holders ≡ length old.holders
  pub holders : (g : ℕ) → g % 16 ≡ k → holders_in new (g / 16) ≡ fold (holders_after g) (holders_in old (g / 16)) changes
  pub words : (g w : ℕ) → g % 16 ≡ k → word_in new (g / 16) w
      ≡ (if list_any (λ (change : Change). change.zero && has_granule change.run g) changes then 0 else word_in old (g / 16) w)

-- y is x with these changes, which are those of the command or scrub of that number
pub record MakesChanges (x y : Stripe) (number : ℕ) (changes : List Change) : Type 0 where
  pub index_is : y.index ≡ x.index
  pub config_is : y.config ≡ x.config
  pub entries_are : y.entries ≡ x.entries
  pub clock_is : y.clock ≡ stamp number 0
  pub media : AreMadeIn x.index x.media y.media changes
