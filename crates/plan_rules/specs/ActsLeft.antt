-- What the acts of a plan leave, each for itself.
use Rattle.std.specs.Prelude.{◌≡◌, ◌≢◌, ℕ, ◌+◌, ◌-◌, ◌*◌, ◌^◌, ◌<◌, ◌≤◌, false, List, [], ◌∷◌, ◌++◌, length, drop, reverse, None, IsFalse}
use Rattle.dcd_base.specs.{declared.ids.HostId.HostId, declared.steps.Actor.Actor, Words.zero_tag}
use Rattle.host_payloads.specs.declared.requests.HostRequest.{HostRequest}
use Rattle.fm_payloads.specs.declared.requests.FmRequest.{FmRequest}
use Rattle.region_config.specs.{Configurations.Configuration, Granules.region_spec}
use Rattle.journal_core.specs.{Entries.effects, declared.acts.Act.Act, declared.outcome.Effect.Effect, declared.outcome.HeldKind.HeldKind, declared.entries.Entry.Entry}
use Rattle.isolation_laws.specs.device_rules.specs.{Answers.broken, Hosts.accepted_of, Hosts.block_of, Hosts.held_of, Hosts.offers_of, Legal.Legal}
use Rattle.plan_rules.specs.{Holding.Step, Holding.blocks_held, Holding.entry_of_step, Holding.extents_in_region, Holding.stepped, Kept.KeepsHosts, Kept.KeepsOthers, Kept.bytes_in}
use Rattle.plan_rules.specs.{Listing.by_host, Listing.by_manager, Listing.last_bytes, Listing.offer_taken, Meeting.HoldsStill, declared.demands.Demand.Demand}

-- the journal after one more act
abbrev pub journal_behind : Configuration → List Entry → Step → List Entry
journal_behind c journal s = journal ++ entry_of_step c journal s ∷ []

-- Each of the acts, taken one after another, breaks no rule.
abbrev pub Unbroken : Configuration → List Entry → List Step → Type 0
Unbroken c journal [] = Unit {0}
Unbroken c journal (s ∷ acts) = (broken c journal s.0 s.1 ≡ None) × Unbroken c (journal_behind c journal s) acts

-- ---- what is left

-- The host's oldest offer is gone, and all else of the hosts' lists is as it was.
pub record OldestOfferGoes (c : Configuration) (h : HostId) (before after : List Effect) : Type 0 where
  pub keeps : KeepsOthers c h before after
  pub accepted : accepted_of c h after ≡ accepted_of c h before
  pub offers : offers_of h after ≡ drop 1 (offers_of h before)

-- The extents of the host in one region may have changed, and nothing else of the hosts' lists has.
pub record ChangesOnly (c : Configuration) (h : HostId) (r : ℕ) (before after : List Effect) : Type 0 where
  pub keeps : KeepsOthers c h before after
  pub offers : offers_of h after ≡ offers_of h before
  pub elsewhere : (s : ℕ) → r ≢ s → extents_in_region c h s after ≡ extents_in_region c h s before

-- The host has no extents in the region any more.
pub record RegionLeft (c : Configuration) (h : HostId) (r : ℕ) (before after : List Effect) : Type 0 where
  pub only : ChangesOnly c h r before after
  pub none : extents_in_region c h r after ≡ []

-- The host has lost so many bytes of the region, and has no granule there that it had not.
pub record BytesLeave (c : Configuration) (x : Demand) (bytes : ℕ) (before after : List Effect) : Type 0 where
  pub only : ChangesOnly c x.host x.region before after
  pub less : bytes_in c x.host x.region after ≡ bytes_in c x.host x.region before - bytes
  pub falls : HoldsStill c x.host x.region after before

-- The host has gained so many bytes of the region, and has all granules there that it had.
pub record BytesCome (c : Configuration) (x : Demand) (bytes : ℕ) (before after : List Effect) : Type 0 where
  pub only : ChangesOnly c x.host x.region before after
  pub more : bytes_in c x.host x.region after ≡ bytes_in c x.host x.region before + bytes
  pub rises : HoldsStill c x.host x.region before after

-- ---- the acts

-- all of the host's extents in the region are removed by force
abbrev pub emptying : Configuration → HostId → ℕ → List Effect → Step
emptying c h r past = by_manager (FmRequest.Remove h 17 r 0 zero_tag (extents_in_region c h r past))

-- the last of them are given back, so many blocks
abbrev pub giving_back : Configuration → Demand → ℕ → List Effect → Step
giving_back c x n past = by_host x.host (HostRequest.GiveBack false (last_bytes (n * block_of c x.region past) (reverse (extents_in_region c x.host x.region past))))

-- so many blocks are offered, and the oldest offer is taken whole
abbrev pub offering : Configuration → Demand → ℕ → List Effect → Step
offering c x n past = by_manager (FmRequest.Add x.host 0 x.region (n * block_of c x.region past) zero_tag [])

abbrev pub providing : Configuration → Demand → ℕ → List Entry → List Step
providing c x n journal = let offer = offering c x n (effects journal) in
    offer ∷ offer_taken x.host (effects (journal_behind c journal offer)) ∷ []

-- A host and a region of the device are named, and the region is not shareable.
pub record IsPlain (c : Configuration) (x : Demand) : Type 0 where
  pub host : x.host < c.hosts
  pub region : x.region < length c.regions
  pub private : IsFalse (region_spec c x.region).shareable

-- What each act leaves behind a journal, where it breaks no rule.
pub record ActsLeave (c : Configuration) (journal : List Entry) : Type 0 where
  pub clears : (h : HostId) (handles : List ℕ) →
      KeepsHosts c (effects journal) (effects (journal_behind c journal (by_host h (HostRequest.ClearEvents 4 false handles))))
  pub refuses : (h : HostId) → h < c.hosts → held_of h HeldKind.Responses (effects journal) ≡ [] → 0 < length (offers_of h (effects journal)) →
      OldestOfferGoes c h (effects journal) (effects (journal_behind c journal (by_host h (HostRequest.AddResponse false []))))
  pub empties : (h : HostId) (r : ℕ) → h < c.hosts → r < length c.regions → 0 < length (extents_in_region c h r (effects journal)) → Unbroken c journal (emptying c h r (effects journal) ∷ []) →
      RegionLeft c h r (effects journal) (effects (journal_behind c journal (emptying c h r (effects journal))))
  pub gives : (x : Demand) (n : ℕ) → IsPlain c x → 0 < n → n ≤ blocks_held c x.host x.region (effects journal) →
      held_of x.host HeldKind.Releases (effects journal) ≡ [] → Unbroken c journal (giving_back c x n (effects journal) ∷ []) →
      BytesLeave c x (n * block_of c x.region (effects journal)) (effects journal) (effects (journal_behind c journal (giving_back c x n (effects journal))))
  pub scrubs : (n : ℕ) → KeepsHosts c (effects journal) (effects (journal_behind c journal (Actor.Sanitizer, Act.Scrub n)))
  pub provides : (x : Demand) (n : ℕ) → IsPlain c x → 0 < n → n * block_of c x.region (effects journal) < 2 ^ 64 → offers_of x.host (effects journal) ≡ [] →
      held_of x.host HeldKind.Responses (effects journal) ≡ [] → Unbroken c journal (providing c x n journal) →
      BytesCome c x (n * block_of c x.region (effects journal)) (effects journal) (effects (stepped c journal (providing c x n journal)))

-- So after every legal journal.
abbrev pub ActsLeaveAll : Configuration → Type 0
ActsLeaveAll c = (journal : List Entry) → Legal c journal → ActsLeave c journal
