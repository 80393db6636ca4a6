-- What holds of a shard that is right: when it is changed, and at the end.
use Rattle.std.specs.Prelude.{◌≡◌, ℕ, suc, ◌+◌, List, length}
use Rattle.dcd_base.specs.declared.media.Change.{Change}
use Rattle.device_rules.specs.ChangedRuns.{AreChanges}
use Rattle.journal_core.specs.{declared.entries.Entry.Entry, Entries.effects}
use Rattle.ruled_cells.specs.{declared.about.About.About, Reads.ChiefReads, Resting.IsShardAtRest, Ruling.names, Stamps.stamp}
use Rattle.shard_laws.specs.{Changing.ChangedBy, Changing.MakesChanges, Lawful.IsShardLog, Right.IsRight, Right.stripe_reads, Stripes.Stripe}

-- A list of changes names holders and not who comes or goes. Made to a shard that is right for the journal before the
-- entry, those of the entry do what its effects say.
abbrev pub FollowsEffects : ℕ → Stripe → Stripe → List Entry → Entry → List Change → Type 0
FollowsEffects k x y log e changes =
    IsRight k x log → AreChanges x.config (effects log) e.effects changes → e.stamp ≡ stamp (length log + 1) 0
    → MakesChanges x y (length log + 1) changes → ChangedBy e x y

-- What the cells tell of a shard once all turns are given back is what the whole journal asks of its loads and stores.
abbrev pub RestsLawful : {F : Type 0} → ChiefReads F → About → List Entry → ℕ → Stripe → Type 0
RestsLawful chief about log k x = IsShardAtRest (names chief stripe_reads) about log (suc k) x → IsShardLog about.config log k x.entries
