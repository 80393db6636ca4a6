-- What a host's 4803h leaves that gives back the last bytes of its extents in a region.
use Rattle.std.specs.Prelude.{◌≡◌, ◌≢◌, ℕ, ◌<◌, ◌%◌, false, IsFalse, IsTrue, List, [], filter, length, reverse, ◌-◌}
use Rattle.std.specs.declared.result.Result.TheVariants.{Ok}
use Rattle.cci_codec.specs.declared.messages.Request.{Request}
use Rattle.dcd_base.specs.declared.{ids.HostId.HostId, steps.Actor.Actor, steps.LogId.LogId}
use Rattle.host_payloads.specs.{HostPayloads.host_request, declared.requests.HostRequest.HostRequest}
use Rattle.region_config.specs.{Configurations.Configuration, Granules.region_spec}
use Rattle.journal_core.specs.{Entries.effects, Holders.holds, declared.entries.Entry.Entry, declared.outcome.HeldKind.HeldKind}
use Rattle.isolation_laws.specs.device_rules.specs.{Hosts.accepted_of, Hosts.block_of, Hosts.held_of, Hosts.offers_of, Logs.log_of}
use Rattle.plan_rules.specs.{Kept.KeepsOthers, Kept.Succeeds, Kept.begins_in, Kept.behind_host, Kept.bytes_in, Listing.last_bytes, LastBytes.without_last_bytes}

-- The host's extents in the region lack so many bytes at the end of the list, and those elsewhere are as they were. Nobody
-- holds a granule that it did not hold before.
pub record IsGivenBack (c : Configuration) (journal : List Entry) (h : HostId) (r n : ℕ) (q : Request) : Type 0 where
  pub succeeds : Succeeds c journal (Actor.Host h) q
  pub keeps : KeepsOthers c h (effects journal) (behind_host c journal h q)
  pub offers : offers_of h (behind_host c journal h q) ≡ offers_of h (effects journal)
  pub logs : (k : HostId) → log_of (LogId.Host k) (behind_host c journal h q) ≡ log_of (LogId.Host k) (effects journal)
  pub holders : (k : HostId) (g : ℕ) → IsTrue (holds k g (behind_host c journal h q)) → IsTrue (holds k g (effects journal))
  pub there : reverse (filter (begins_in c h r) (accepted_of c h (behind_host c journal h q)))
      ≡ without_last_bytes n (reverse (filter (begins_in c h r) (accepted_of c h (effects journal))))
  pub long : bytes_in c h r (behind_host c journal h q) ≡ bytes_in c h r (effects journal) - n
  pub elsewhere : (s : ℕ) → s ≢ r → filter (begins_in c h s) (accepted_of c h (behind_host c journal h q))
      ≡ filter (begins_in c h s) (accepted_of c h (effects journal))

-- Where the region is not shareable, the bytes are whole blocks and the host holds nothing of earlier releases, it succeeds.
abbrev pub GivesLastBytesBack : Configuration → List Entry → Type 0
GivesLastBytesBack c journal = (h : HostId) (r n : ℕ) (q : Request) → h < c.hosts → r < length c.regions → IsFalse (region_spec c r).shareable →
    held_of h HeldKind.Releases (effects journal) ≡ [] → n % block_of c r (effects journal) ≡ 0 →
    host_request q.opcode q.payload ≡ Ok (HostRequest.GiveBack false (last_bytes n (reverse (filter (begins_in c h r) (accepted_of c h (effects journal)))))) →
    IsGivenBack c journal h r n q

-- ---- whole blocks

-- What a host has accepted in a region is whole blocks of the present size.
abbrev pub MadeOfBlocks : Configuration → List Entry → Type 0
MadeOfBlocks c journal = (h : HostId) (r : ℕ) → bytes_in c h r (effects journal) % block_of c r (effects journal) ≡ 0
