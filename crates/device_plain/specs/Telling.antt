-- What a device with one host alone makes of records for its host, and what it replies to an item.
use Rattle.std.specs.Prelude.{◌≡◌, ℕ, ◌<◌, false, List, [], ◌∷◌, ◌++◌, length}
use Rattle.std.specs.declared.result.Result.{Result, TheVariants.Ok, TheVariants.Err}
use Rattle.dcd_base.specs.declared.ids.HostId.{HostId}
use Rattle.control_core.specs.device_rules.specs.{Outcomes.record_for, Outcomes.no_extent, Views.View}
use Rattle.event_log.specs.Logs.{records_in}
use Rattle.event_records.specs.declared.events.{Event.Event, EventKind.EventKind}
use Rattle.region_config.specs.Configurations.{Configuration}
use Rattle.device_plain.specs.{Alone.IsAlone, Alone.reply_in, declared.alone.Alone.Alone, declared.alone.Stop.Stop}
use Rattle.isolation_laws.specs.{Solo.with_log_records, declared.items.Item.Item, declared.items.SoloReply.SoloReply}

-- The records are in the log, whatever the host saw before; or the log has no room for them.
abbrev pub Logs : Configuration → HostId → (View → List Event) → Alone → Alone → Result Unit Stop → Type 0
Logs c h events old new (Ok _) = (v : View) (word : ℕ → ℕ) → IsAlone c h v word old → IsAlone c h (with_log_records v (events v)) word new
Logs c h events old new (Err Stop.Unlawful) = (v : View) (word : ℕ → ℕ) → IsAlone c h v word old → 64 < length (records_in (with_log_records v (events v)).log)
Logs c h events old new (Err Stop.NoMemory) = Unit {0}

-- the record of a region's new block size
abbrev pub resized : HostId → ℕ → View → List Event
resized h r v = record (record_for h v EventKind.RegionUpdated false no_extent) { region = r } ∷ []

-- what is replied to an item: to an act of the host alone
abbrev pub replies_to : Configuration → HostId → View → (ℕ → ℕ) → Item → List SoloReply
replies_to c h v word (Item.Own act) = reply_in c h v word act ∷ []
replies_to c h v word item = []

-- It is put behind the replies so far, whatever the host saw before.
abbrev pub Replies : Configuration → HostId → Alone → Item → List SoloReply → List SoloReply → Type 0
Replies c h alone item old new = (v : View) (word : ℕ → ℕ) → IsAlone c h v word alone → new ≡ old ++ replies_to c h v word item
