-- What is left once a host is offered free blocks, and takes its oldest offer whole.
use Rattle.extent_list.specs.Listing.{too_many_extents}
use Rattle.isolation_laws.specs.device_rules.specs.{Adding.is_free_now, Adding.offered, Adding.present, Adding.region_free_blocks, Answers.broken, Answers.manager_rule}
use Rattle.isolation_laws.specs.device_rules.specs.{Hosts.accepted_of, Hosts.block_of, Hosts.held_of, Hosts.offers_of, Logs.log_of, Outcomes.log_full, Tags.region_of_offer}
use Rattle.isolation_laws.specs.device_rules.specs.Views.{extents_in, view_of}
use Rattle.std.specs.Prelude.{◌≡◌, ◌≢◌, ℕ, ◌+◌, ◌/◌, ◌<◌, false, IsFalse, IsTrue, List, [], ◌∷◌, ◌++◌, None, drop, filter, length, map, sum_by, ◌%◌, ◌≤◌}
use Rattle.std.specs.declared.result.Result.TheVariants.{Ok}
use Rattle.cci_codec.specs.declared.messages.Request.{Request}
use Rattle.dcd_base.specs.{declared.ids.HostId.HostId, declared.steps.Actor.Actor, declared.steps.LogId.LogId, Words.zero_tag, Words.◌or◌, declared.capacity.Extent.Extent}
use Rattle.fm_payloads.specs.{ManagerPayloads.manager_request, declared.requests.FmRequest.FmRequest}
use Rattle.host_payloads.specs.{HostPayloads.host_request, declared.requests.HostRequest.HostRequest}
use Rattle.offer_core.specs.Offerings.{oldest_of}
use Rattle.region_config.specs.{Configurations.Configuration, Granules.region_spec}
use Rattle.journal_core.specs.{Entries.effects, Holders.holds, declared.acts.Act.Act, declared.entries.Entry.Entry, declared.outcome.Effect.Effect, declared.outcome.HeldKind.HeldKind}
use Rattle.plan_rules.specs.{Kept.KeepsOthers, Kept.Succeeds, Kept.begins_in, Kept.behind_host, Kept.behind_manager, Listing.listed}

-- how many blocks of the region are free
abbrev pub blocks_free_now : Configuration → ℕ → List Effect → ℕ
blocks_free_now c r past = region_free_blocks (present c past) (is_free_now c past) r

-- ---- 4802h with all extents of the oldest offer

-- They join the host's accepted extents, everybody holds what it held, and where their region is not shareable as many
-- blocks are free as before.
pub record IsOfferTaken (c : Configuration) (journal : List Entry) (h : HostId) (q : Request) : Type 0 where
  pub succeeds : Succeeds c journal (Actor.Host h) q
  pub keeps : KeepsOthers c h (effects journal) (behind_host c journal h q)
  pub accepted : accepted_of c h (behind_host c journal h q) ≡ accepted_of c h (effects journal) ++ oldest_of (offers_of h (effects journal))
  pub offers : offers_of h (behind_host c journal h q) ≡ drop 1 (offers_of h (effects journal))
  pub logs : (k : HostId) → log_of (LogId.Host k) (behind_host c journal h q) ≡ log_of (LogId.Host k) (effects journal)
  pub holders : (k : HostId) (g : ℕ) → IsTrue (holds k g (effects journal)) → IsTrue (holds k g (behind_host c journal h q))
  pub free : IsFalse (region_spec c (region_of_offer c h (oldest_of (offers_of h (effects journal))))).shareable → (r : ℕ) →
      blocks_free_now c r (behind_host c journal h q) ≡ blocks_free_now c r (effects journal)

-- Where the host has an offer and holds nothing of earlier responses, it succeeds.
abbrev pub TakesWholeOffers : Configuration → List Entry → Type 0
TakesWholeOffers c journal = (h : HostId) (q : Request) → held_of h HeldKind.Responses (effects journal) ≡ [] → 0 < length (offers_of h (effects journal)) →
    host_request q.opcode q.payload ≡ Ok (HostRequest.AddResponse false (map listed (oldest_of (offers_of h (effects journal))))) → IsOfferTaken c journal h q

-- ---- 5604h by the policy Free, with no tag

-- the extents that it offers
abbrev pub free_offer_of : Configuration → List Effect → HostId → ℕ → ℕ → List Extent
free_offer_of c past h r bytes = offered c past h 0 r bytes zero_tag []

-- They are one more offer to the host, all in the region and of so many bytes together. So many fewer blocks of the region are
-- free then, and as many as before of each other region.
pub record IsOfferedFree (c : Configuration) (journal : List Entry) (h : HostId) (r bytes : ℕ) (q : Request) : Type 0 where
  pub succeeds : Succeeds c journal Actor.Manager q
  pub keeps : KeepsOthers c h (effects journal) (behind_manager c journal q)
  pub accepted : accepted_of c h (behind_manager c journal q) ≡ accepted_of c h (effects journal)
  pub offers : offers_of h (behind_manager c journal q) ≡ offers_of h (effects journal) ++ free_offer_of c (effects journal) h r bytes ∷ []
  pub logs : (k : HostId) → h ≢ k → log_of (LogId.Host k) (behind_manager c journal q) ≡ log_of (LogId.Host k) (effects journal)
  pub holders : (k : HostId) (g : ℕ) → holds k g (behind_manager c journal q) ≡ holds k g (effects journal)
  pub there : filter (begins_in c h r) (free_offer_of c (effects journal) h r bytes) ≡ free_offer_of c (effects journal) h r bytes
  pub elsewhere : (s : ℕ) → s ≢ r → filter (begins_in c h s) (free_offer_of c (effects journal) h r bytes) ≡ []
  pub long : sum_by (λ (x : Extent). x.length) (free_offer_of c (effects journal) h r bytes) ≡ bytes
  pub fewer : blocks_free_now c r (behind_manager c journal q) + bytes / block_of c r (effects journal) ≡ blocks_free_now c r (effects journal)
  pub others : (s : ℕ) → s < length c.regions → s ≢ r → blocks_free_now c s (behind_manager c journal q) ≡ blocks_free_now c s (effects journal)

-- So it is where the region is not shareable and no rule is broken.
abbrev pub OffersFreeBlocks : Configuration → List Entry → Type 0
OffersFreeBlocks c journal = (h : HostId) (r bytes : ℕ) (q : Request) → IsFalse (region_spec c r).shareable →
    manager_request q.opcode q.payload ≡ Ok (FmRequest.Add h 0 r bytes zero_tag []) → broken c journal Actor.Manager (Act.Command q) ≡ None →
    IsOfferedFree c journal h r bytes q

-- ---- what may still refuse it

-- Whole blocks of a region that is not shareable, some, of which so many are free.
pub record CanBeOfferedFree (c : Configuration) (past : List Effect) (h : HostId) (r bytes : ℕ) : Type 0 where
  pub host : h < c.hosts
  pub known : r < length c.regions
  pub private : IsFalse (region_spec c r).shareable
  pub some : 0 < bytes
  pub whole : bytes % block_of c r past ≡ 0
  pub enough : bytes / block_of c r past ≤ blocks_free_now c r past

-- The rule that it breaks then is that of the number of the host's extents, or else that of the room in its log.
abbrev pub OnlyRoomIsWanting : Configuration → List Entry → Type 0
OnlyRoomIsWanting c journal = (h : HostId) (r bytes : ℕ) → CanBeOfferedFree c (effects journal) h r bytes →
    manager_rule c (effects journal) (λ k. view_of c k journal) (FmRequest.Add h 0 r bytes zero_tag [])
    ≡ (too_many_extents (length (extents_in (view_of c h journal)) + length (free_offer_of c (effects journal) h r bytes))
    or log_full h (log_of (LogId.Host h) (effects journal)) (length (free_offer_of c (effects journal) h r bytes)))
