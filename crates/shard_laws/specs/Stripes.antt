-- What contracts see of a shard: every sixteenth granule of the device, with its loads and stores.
use Rattle.std.specs.Prelude.{ℕ, ◌+◌, ◌-◌, ◌/◌, List}
use Rattle.dcd_base.specs.declared.steps.Stamp.{Stamp}
use Rattle.granule_mem.specs.Contents.{Media, holders_in, word_in}
use Rattle.journal_core.specs.declared.entries.Entry.{Entry}
use Rattle.region_config.specs.Configurations.{Configuration}

-- Granule g of the device is granule g / 16 of the shard g % 16. The clock is the stamp of the last load or store of
-- the shard, or of the last command that changed it.
pub record Stripe : Type 0 where
  pub index : ℕ
  pub config : Configuration
  pub media : Media
  pub entries : List Entry
  pub clock : Stamp

-- how many of the granules below a number are of the shard
abbrev pub own_below : ℕ → ℕ → ℕ
own_below k end = (end + 15 - k) / 16

-- the hosts that hold a granule of the device, and a word of it
abbrev pub holders_at : Stripe → ℕ → ℕ
holders_at x g = holders_in x.media (g / 16)

abbrev pub stripe_word : Stripe → ℕ → ℕ → ℕ
stripe_word x g w = word_in x.media (g / 16) w
