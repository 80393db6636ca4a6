-- Lists in the caller's room: extents, tags, records, regions, bases.
use Rattle.std.specs.Prelude.{◌≡◌, ℕ, suc, ◌+◌, ◌*◌, ◌%◌, ◌^◌, ◌<◌, ◌≤◌, List, [], ◌∷◌, ◌++◌, drop, flat_map, length, map, Bool, true, false, Option, Some, None, Result, Ok, Err}
use Rattle.std.specs.List.{range_with_len}
use Rattle.dcd_base.specs.declared.{capacity.Extent.Extent, steps.LogId.LogId, tags.TagView.TagView}
use Rattle.event_records.specs.Records.{record_bytes}
use Rattle.region_config.specs.{Configurations.Configuration, Granules.base_of, declared.region_spec.RegionSpec.RegionSpec}
use Rattle.journal_core.specs.{Entries.effects, declared.entries.Entry.Entry}
use Rattle.device_plain.specs.{Lives.ByEveryLife, Lives.Living, device_rules.specs.Adding.present, device_rules.specs.Counts.records_of}
use Rattle.device_plain.specs.device_rules.specs.{Hosts.accepted_of, Hosts.offers_of, TagCommands.tag_seen, Tags.open_tags}
use Rattle.dcd_c.specs.{Calls.log_numbered, declared.faults.Fault.Fault, declared.heads.RegionTold.RegionTold, declared.lists.ExtentTold.ExtentTold, declared.sessions.Session.Session}
use Rattle.dcd_c.specs.declared.tags.TagTold.{TagTold}

-- What putting a list into the caller's room answers, by every journal that leads to the device: the list stands there and is
-- counted, or there is too little room for it.
abbrev pub TellsItems : {X : Type 0} → (Living → List Entry → List X) → List X → List X → Living → Result ℕ Fault → Type 0
TellsItems told was is d (Ok n) = ByEveryLife d (λ life. (n ≡ length (told d life)) × (is ≡ told d life ++ drop n was))
TellsItems told was is d (Err (Fault.NoRoom n)) = (is ≡ was) × (length was < n) × ByEveryLife d (λ life. n ≡ length (told d life))
TellsItems told was is d (Err fault) = ⊥

-- The same of a host, if it is one.
abbrev pub TellsHostItems : {X : Type 0} → ℕ → (Living → List Entry → List X) → List X → List X → Living → Result ℕ Fault → Type 0
TellsHostItems host told was is d (Err Fault.NoActor) = (is ≡ was) × (d.config.hosts ≤ host)
TellsHostItems host told was is d outcome = (host < d.config.hosts) × TellsItems told was is d outcome

-- The same of a place.
abbrev pub TellsPlace : {X : Type 0} → List X → List X → (Living → Result ℕ Fault → Type 0) → Option Session → Result ℕ Fault → Type 0
TellsPlace was is P (Some s) outcome = P s.device outcome
TellsPlace was is P None outcome = (outcome ≡ Err Fault.Closed) × (is ≡ was)

-- an extent as C sees it
abbrev pub extent_told : ℕ → Extent → ExtentTold
extent_told offer x = record { dpa = x.start; length = x.length; tag = x.tag.0; sequence = x.sequence; offer = offer; reserved = 0 }

abbrev pub accepted_told : ℕ → Living → List Entry → List ExtentTold
accepted_told host d life = map (extent_told 0) (accepted_of d.config host (effects life))

-- the extents of offers, which are numbered from this one on, in the 16 bits of a number
abbrev pub offers_from : ℕ → List (List Extent) → List ExtentTold
offers_from n [] = []
offers_from n (xs ∷ offers) = map (extent_told (n % 2 ^ 16)) xs ++ offers_from (suc n) offers

abbrev pub offers_told : ℕ → Living → List Entry → List ExtentTold
offers_told host d life = offers_from 0 (offers_of host (effects life))

-- What putting the records of a log answers: they stand there, 128 bytes each, and their bytes are counted; or there is too
-- little room for them.
abbrev pub TellsRecords : LogId → List ℕ → List ℕ → Living → Result ℕ Fault → Type 0
TellsRecords log was is d (Ok n) = ByEveryLife d (λ life. let records = records_of log (effects life) in (n ≡ length records * 128) × (is ≡ flat_map record_bytes records ++ drop n was))
TellsRecords log was is d (Err (Fault.NoRoom n)) = (is ≡ was) × (length was < n) × ByEveryLife d (λ life. n ≡ length (records_of log (effects life)) * 128)
TellsRecords log was is d (Err fault) = ⊥

-- the bit of a flag
abbrev pub flag_number : Bool → ℕ → ℕ
flag_number true bit = bit
flag_number false bit = 0

-- what the manager is shown of a tag, as C sees it
abbrev pub tag_told : TagView → TagTold
tag_told v = record { tag = v.tag.0; holders = v.holders; offered = v.offered; referenced = flag_number v.referenced 1; reserved = 0; reserved_too = 0 }

-- the live tags, in the order of opening
abbrev pub tags_told : Living → List Entry → List TagTold
tags_told d life = map tag_told (map (tag_seen d.config (effects life)) (open_tags d.config (effects life)))

-- What putting the records of a log answers, if there is one of this number.
abbrev pub TellsLogAt : Option LogId → List ℕ → List ℕ → Living → Result ℕ Fault → Type 0
TellsLogAt None was is d outcome = (outcome ≡ Err Fault.NoActor) × (is ≡ was)
TellsLogAt (Some log) was is d outcome = TellsRecords log was is d outcome

abbrev pub TellsLog : ℕ → List ℕ → List ℕ → Living → Result ℕ Fault → Type 0
TellsLog number was is d outcome = TellsLogAt (log_numbered d.config.hosts number) was is d outcome

-- a region as C sees it
abbrev pub flags_told : RegionSpec → ℕ
flags_told r = flag_number r.sanitize 1 + flag_number r.shareable 2

abbrev pub region_told : RegionSpec → RegionTold
region_told r = record { decode_units = r.decode_units; length = r.length; block = r.block; sizes = r.sizes; handle = r.handle; flags = flags_told r }

abbrev pub regions_told : Living → List Entry → List RegionTold
regions_told d life = map region_told (present d.config (effects life)).regions

-- where each region begins for a host
abbrev pub host_bases : Configuration → ℕ → List ℕ
host_bases c h = map (λ r. base_of c h r) (range_with_len 0 (length c.regions))

-- the same of the hosts, host by host
abbrev pub bases_told : Living → List Entry → List ℕ
bases_told d life = flat_map (host_bases d.config) (range_with_len 0 d.config.hosts)
