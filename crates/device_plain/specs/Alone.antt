-- What a device with one host alone keeps, and what it makes of the host's items.
use Rattle.std.specs.Prelude.{◌≡◌, ℕ, ◌+◌, ◌≤◌, ◌&&◌, not, if◌then◌else◌, List, [], ◌∷◌, ◌++◌, take, slice_get, Some}
use Rattle.std.specs.{List.list_any, declared.result.Result.Result, declared.result.Result.TheVariants.Ok, declared.result.Result.TheVariants.Err}
use Rattle.dcd_base.specs.declared.{ids.HostId.HostId, steps.LogId.LogId, failures.AccessFault.AccessFault, media.Place.Place}
use Rattle.control_core.specs.device_rules.specs.{Answers.host_result_in, Answers.reply_with, Views.View, Views.lists_in}
use Rattle.granule_mem.specs.Contents.{word_among}
use Rattle.event_log.specs.Logs.{IsLogOf}
use Rattle.extent_list.specs.HostLists.{extent_total}
use Rattle.journal_core.specs.declared.acts.{Act.Act, Reply.Reply}
use Rattle.media_map.specs.Places.{locate}
use Rattle.region_config.specs.{Configurations.Configuration, Granules.region_spec, Granules.with_blocks, declared.region_spec.RegionSpec.RegionSpec}
use Rattle.isolation_laws.specs.{Solo.has_byte, Solo.solo, Solo.solo_after, Solo.solo_view, Solo.solo_word_after, declared.items.Item.Item, declared.items.SoloReply.SoloReply, Unlawful.IsUnlawful}
use Rattle.device_plain.specs.declared.{alone.Alone.Alone, alone.Stop.Stop, replying.SoloFault.SoloFault}

-- ---- what is replied

-- The reply to each act among the later items, after those before it.
abbrev pub replies_after : Configuration → HostId → List Item → List Item → List SoloReply
replies_after c h before [] = []
replies_after c h before (Item.Own act ∷ later) = solo c h before act ∷ replies_after c h (before ++ Item.Own act ∷ []) later
replies_after c h before (item ∷ later) = replies_after c h (before ++ item ∷ []) later

abbrev pub solo_replies : Configuration → HostId → List Item → List SoloReply
solo_replies c h items = replies_after c h [] items

-- ---- what no legal journal brings

abbrev pub IsFaultOf : Configuration → HostId → List Item → SoloFault → Type 0
IsFaultOf c h items (SoloFault.Unlawful i) = (item : Item) × (slice_get items i ≡ Some item) × IsUnlawful c h (solo_view c h (take i items)) item
IsFaultOf c h items SoloFault.NoMemory = Unit {0}

-- ---- what is kept

-- What the device keeps is what its host sees, and the word at each address is this one.
pub record IsAlone (c : Configuration) (h : HostId) (v : View) (word : ℕ → ℕ) (a : Alone) : Type 0 where
  pub present_is : a.present ≡ with_blocks c v.block
  pub lists_are : a.lists ≡ lists_in v
  pub few : extent_total a.lists ≤ 64
  pub log_is : IsLogOf (LogId.Host h) v.log a.log
  pub words_are : (d : ℕ) → word_among a.words.entries d ≡ word d

-- An item is taken, whatever the host saw before; or no legal journal brings it.
abbrev pub TakesItem : Configuration → HostId → Item → Alone → Alone → Result Unit Stop → Type 0
TakesItem c h item old new (Ok _) = (v : View) (word : ℕ → ℕ) → IsAlone c h v word old → IsAlone c h (solo_after c h v item) (λ d. solo_word_after c h d v (word d) item) new
TakesItem c h item old new (Err Stop.Unlawful) = (v : View) (word : ℕ → ℕ) → IsAlone c h v word old → IsUnlawful c h v item
TakesItem c h item old new (Err Stop.NoMemory) = Unit {0}

-- ---- what is replied to an act, by what the host sees and its words

abbrev pub access_alone : Act → (ℕ → ℕ) → ℕ → RegionSpec → SoloReply
access_alone (Act.Load e) word d spec = if not spec.shareable && spec.sanitize then SoloReply.Said (Reply.Word (word d)) else SoloReply.Unsaid
access_alone act word d spec = SoloReply.Said Reply.Stored

abbrev pub access_in : Configuration → View → (ℕ → ℕ) → Act → ℕ → Result Place AccessFault → SoloReply
access_in c v word act d (Err fault) = SoloReply.Said (Reply.Refused fault)
access_in c v word act d (Ok p) =
    if list_any (has_byte d) v.accepted then access_alone act word d (region_spec c p.region)
    else SoloReply.Said (Reply.Refused AccessFault.NotGranted)

abbrev pub reply_in : Configuration → HostId → View → (ℕ → ℕ) → Act → SoloReply
reply_in c h v word (Act.Command q) = SoloReply.Said (reply_with q (host_result_in c h v q))
reply_in c h v word (Act.Load d) = access_in c v word (Act.Load d) d (locate c h d)
reply_in c h v word (Act.Store d value) = access_in c v word (Act.Store d value) d (locate c h d)
reply_in c h v word (Act.Scrub n) = SoloReply.Unsaid

-- An act is done and replied, whatever the host saw before.
abbrev pub DoesAlone : Configuration → HostId → Act → Alone → Alone → SoloReply → Type 0
DoesAlone c h act old new reply = (v : View) (word : ℕ → ℕ) → IsAlone c h v word old →
    (reply ≡ reply_in c h v word act) × IsAlone c h (solo_after c h v (Item.Own act)) (λ d. solo_word_after c h d v (word d) (Item.Own act)) new
