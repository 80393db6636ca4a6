-- What a dead host's acts of a plan leave: its log is cleared, its offers and its extents go. And what a scrub leaves.
use Rattle.std.specs.Prelude.{◌≡◌, ◌≢◌, ◌+◌, ℕ, ◌<◌, ◌≤◌, false, not, List, [], length, map, min, drop, filter}
use Rattle.std.specs.declared.result.Result.TheVariants.{Ok}
use Rattle.cci_codec.specs.declared.messages.Request.{Request}
use Rattle.dcd_base.specs.declared.{capacity.Extent.Extent, capacity.Tag.Tag, ids.HostId.HostId, steps.Actor.Actor, steps.LogId.LogId}
use Rattle.event_log.specs.Logs.{records_in, room_in}
use Rattle.event_records.specs.declared.events.Event.{Event}
use Rattle.host_payloads.specs.{HostPayloads.host_request, declared.requests.HostRequest.HostRequest}
use Rattle.fm_payloads.specs.{ManagerPayloads.manager_request, declared.requests.FmRequest.FmRequest}
use Rattle.region_config.specs.Configurations.{Configuration}
use Rattle.journal_core.specs.{Entries.effects, declared.acts.Act.Act, declared.acts.Reply.Reply, declared.entries.Entry.Entry, declared.outcome.Effect.Effect, declared.outcome.HeldKind.HeldKind}
use Rattle.isolation_laws.specs.device_rules.specs.{Answers.answer, Hosts.accepted_of, Hosts.held_of, Hosts.offers_of, Logs.log_of, Tags.dirty_granules}
use Rattle.plan_rules.specs.Kept.{KeepsHosts, KeepsOthers, Succeeds, begins_in, behind_host, behind_manager, effects_behind}

-- ---- 0101h with all handles of the host's log

pub record IsLogCleared (c : Configuration) (journal : List Entry) (h : HostId) (q : Request) : Type 0 where
  pub succeeds : Succeeds c journal (Actor.Host h) q
  pub keeps : KeepsHosts c (effects journal) (behind_host c journal h q)
  pub emptied : records_in (log_of (LogId.Host h) (behind_host c journal h q)) ≡ []
  pub logs : (k : HostId) → h ≢ k → log_of (LogId.Host k) (behind_host c journal h q) ≡ log_of (LogId.Host k) (effects journal)

abbrev pub log_handles : HostId → List Effect → List ℕ
log_handles h past = map (λ (e : Event). e.handle) (records_in (log_of (LogId.Host h) past))

-- It succeeds, leaves all hosts' lists and the other logs, and empties the log.
abbrev pub ClearsWholeLogs : Configuration → List Entry → Type 0
ClearsWholeLogs c journal = (h : HostId) (q : Request) →
    host_request q.opcode q.payload ≡ Ok (HostRequest.ClearEvents 4 false (log_handles h (effects journal))) →
    IsLogCleared c journal h q

-- ---- 4802h without extents

pub record IsOfferLetGo (c : Configuration) (journal : List Entry) (h : HostId) (q : Request) : Type 0 where
  pub succeeds : Succeeds c journal (Actor.Host h) q
  pub keeps : KeepsOthers c h (effects journal) (behind_host c journal h q)
  pub accepted : accepted_of c h (behind_host c journal h q) ≡ accepted_of c h (effects journal)
  pub offers : offers_of h (behind_host c journal h q) ≡ drop 1 (offers_of h (effects journal))
  pub logs : (k : HostId) → log_of (LogId.Host k) (behind_host c journal h q) ≡ log_of (LogId.Host k) (effects journal)

-- Where the host has an offer and holds nothing of earlier responses, it succeeds and lets the oldest offer go. It tells no host.
abbrev pub LetsOffersGo : Configuration → List Entry → Type 0
LetsOffersGo c journal = (h : HostId) (q : Request) → held_of h HeldKind.Responses (effects journal) ≡ [] → 0 < length (offers_of h (effects journal)) →
    host_request q.opcode q.payload ≡ Ok (HostRequest.AddResponse false []) → IsOfferLetGo c journal h q

-- ---- 5605h by force with all extents of the host in a region

pub record IsRegionEmptied (c : Configuration) (journal : List Entry) (h : HostId) (r : ℕ) (q : Request) : Type 0 where
  pub succeeds : Succeeds c journal Actor.Manager q
  pub keeps : KeepsOthers c h (effects journal) (behind_manager c journal q)
  pub accepted : accepted_of c h (behind_manager c journal q) ≡ filter (λ x. not (begins_in c h r x)) (accepted_of c h (effects journal))
  pub there : filter (begins_in c h r) (accepted_of c h (behind_manager c journal q)) ≡ []
  pub elsewhere : (s : ℕ) → s ≢ r → filter (begins_in c h s) (accepted_of c h (behind_manager c journal q))
      ≡ filter (begins_in c h s) (accepted_of c h (effects journal))
  pub offers : offers_of h (behind_manager c journal q) ≡ offers_of h (effects journal)
  pub told : length (records_in (log_of (LogId.Host h) (behind_manager c journal q)))
      ≡ length (records_in (log_of (LogId.Host h) (effects journal))) + length (filter (begins_in c h r) (accepted_of c h (effects journal)))
  pub logs : (k : HostId) → h ≢ k → log_of (LogId.Host k) (behind_manager c journal q) ≡ log_of (LogId.Host k) (effects journal)

-- a list with some extents that the host's log has room to tell of
pub record CanBeTold (h : HostId) (past : List Effect) (list : List Extent) : Type 0 where
  pub some : 0 < length list
  pub room : length list ≤ room_in (LogId.Host h) (log_of (LogId.Host h) past)

-- Where the host has extents in the region, and room in its log for as many records, it succeeds, they leave and are told there.
abbrev pub EmptiesRegions : Configuration → List Entry → Type 0
EmptiesRegions c journal = (h : HostId) (r bytes : ℕ) (tag : Tag) (q : Request) → h < c.hosts → r < length c.regions →
    CanBeTold h (effects journal) (filter (begins_in c h r) (accepted_of c h (effects journal))) →
    manager_request q.opcode q.payload ≡ Ok (FmRequest.Remove h 0x11 r bytes tag (filter (begins_in c h r) (accepted_of c h (effects journal)))) →
    IsRegionEmptied c journal h r q

-- ---- a scrub

pub record IsKeptByScrub (c : Configuration) (journal : List Entry) (n : ℕ) : Type 0 where
  pub reply : (answer c journal Actor.Sanitizer (Act.Scrub n)).0 ≡ Reply.Scrubbed (min n (length (dirty_granules c (effects journal))))
  pub keeps : KeepsHosts c (effects journal) (effects_behind c journal Actor.Sanitizer (Act.Scrub n))
  pub logs : (l : LogId) → log_of l (effects_behind c journal Actor.Sanitizer (Act.Scrub n)) ≡ log_of l (effects journal)

-- It is done, and leaves all hosts' lists and the logs.
abbrev pub ScrubsKeep : Configuration → List Entry → Type 0
ScrubsKeep c journal = (n : ℕ) → IsKeptByScrub c journal n
