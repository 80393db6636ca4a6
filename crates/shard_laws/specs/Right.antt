-- When a shard is right for a journal of commands and scrubs, and what the rule of the cells reads of it.
use Rattle.std.specs.Prelude.{◌≡◌, ℕ, ◌<◌, ◌%◌, false, List, [], ◌∷◌, All}
use Rattle.dcd_base.specs.declared.steps.Stamp.{Stamp}
use Rattle.device_rules.specs.{ChangedRuns.AreHolders, Legal.Meets, Legal.word_of}
use Rattle.journal_core.specs.{declared.entries.Entry.Entry, Entries.Each, Entries.effects, Entries.is_control, Merging.merged}
use Rattle.region_config.specs.{Configurations.Configuration, Granules.granule_total}
use Rattle.ruled_cells.specs.Reads.{MemberReads}
use Rattle.shard_laws.specs.{Accessing.IsAccess, Belonging.Belongs, Belonging.touches_shard, Changing.ChangedBy, Stripes.Stripe, Stripes.holders_at, Stripes.stripe_word}

-- a load or a store meets what the entries before it ask
abbrev pub AccessMeets : Configuration → List Entry → Entry → Type 0
AccessMeets c before e = is_control e.act ≡ false → Meets c before e

-- Holders, words, loads and stores of shard k, up to its clock, are right for a journal of commands and scrubs: the
-- holders of its granules are those after the journal, and their words those after the merge of the journal and the
-- loads and stores. Each load and store meets what stands before it in that merge. No command above the clock touches
-- the shard.
pub record IsRightBy (c : Configuration) (k : ℕ) (held : ℕ → ℕ) (word : ℕ → ℕ → ℕ) (entries : List Entry) (clock : Stamp) (log : List Entry) : Type 0 where
  pub accesses : All (λ (e : Entry). is_control e.act ≡ false) entries
  pub plain : All (λ (e : Entry). e.effects ≡ []) entries
  pub holders : (g : ℕ) → g < granule_total c → g % 16 ≡ k → AreHolders c g (effects log) (held g)
  pub words : (g w : ℕ) → g < granule_total c → g % 16 ≡ k → word g w ≡ word_of c (merged log (entries ∷ [])) g w
  pub quiet : All (λ (e : Entry). clock.number < e.stamp.number → touches_shard k e ≡ false) log
  pub meets : Each (AccessMeets c) (merged log (entries ∷ []))

abbrev pub IsRight : ℕ → Stripe → List Entry → Type 0
IsRight k x log = (x.index ≡ k) × IsRightBy x.config k (holders_at x) (stripe_word x) x.entries x.clock log

abbrev pub stripe_reads : MemberReads Stripe
stripe_reads = record {
  config = λ x. x.config;
  entries = λ x. x.entries;
  clock = λ x. x.clock;
  touches = touches_shard;
  belongs = Belongs;
  right = IsRight;
  access = IsAccess;
  change = ChangedBy;
}
