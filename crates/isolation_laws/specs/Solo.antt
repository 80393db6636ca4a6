-- What a host alone would be told.
use Rattle.std.specs.Prelude.{◌≡◌, ℕ, ◌+◌, Bool, false, ◌&&◌, not, ◌==◌, nat_le, nat_lt, List, [], ◌∷◌, ◌++◌, length, filter_map, flat_map, fold, Option, Some, None, if◌then◌else◌}
use Rattle.std.specs.{List.list_any, Result.is_ok, declared.result.Result.Result, declared.result.Result.TheVariants.Ok, declared.result.Result.TheVariants.Err}
use Rattle.dcd_base.specs.declared.{ids.HostId.HostId, capacity.Extent.Extent, media.Place.Place, steps.Actor.Actor, steps.LogId.LogId, failures.AccessFault.AccessFault}
use Rattle.extent_list.specs.{ExtentLists.cut_all, dcd_codes.specs.declared.rules.Rule.Rule, media_map.specs.Places.locate, media_map.specs.region_config.specs.Configurations.Configuration}
use Rattle.extent_list.specs.media_map.specs.region_config.specs.{Granules.region_spec, Granules.is_supported, declared.region_spec.RegionSpec.RegionSpec}
use Rattle.cci_codec.specs.declared.messages.Request.{Request}
use Rattle.event_records.specs.{declared.events.EventKind.EventKind, declared.events.Event.Event, Records.kind_number}
use Rattle.journal_core.specs.{declared.acts.Act.Act, declared.acts.Reply.Reply, declared.outcome.Effect.Effect, declared.entries.Entry.Entry, Entries.Each}
use Rattle.isolation_laws.specs.declared.items.{Item.Item, SoloReply.SoloReply}
use Rattle.event_log.specs.Logs.{logged}
use Rattle.device_rules.specs.{Answers.dropped, Answers.reply_with, Answers.host_result_in, Outcomes.Outcome, Outcomes.record_for, Outcomes.records_of_extents, Outcomes.no_extent}
use Rattle.device_rules.specs.Views.{View, view_after, first_view}

-- ---- a host's own acts, and what others bring it

-- the extents of the records of this kind that go into the host's log
abbrev pub told_by : HostId → EventKind → Effect → Option Extent
told_by h kind (Effect.Logged (LogId.Host k) e) = if (k == h) && (kind_number e.kind == kind_number kind) then Some e.extent else None
told_by h kind e = None

abbrev pub extents_recorded : HostId → EventKind → List Effect → List Extent
extents_recorded h kind new = filter_map (told_by h kind) new

abbrev pub item_of : (List Extent → Item) → List Extent → List Item
item_of make [] = []
item_of make (x ∷ xs) = make (x ∷ xs) ∷ []

abbrev pub block_item : Effect → Option Item
block_item (Effect.Block r size) = Some (Item.Block r size)
block_item e = None

-- offers, requests to release, removals by force, and new block sizes
abbrev pub delivered : HostId → List Effect → List Item
delivered h new =
    item_of Item.Given (extents_recorded h EventKind.Add new) ++ item_of Item.Asked (extents_recorded h EventKind.Release new)
    ++ item_of Item.Taken (extents_recorded h EventKind.Forced new) ++ filter_map block_item new

abbrev pub acts_for : HostId → Actor → Bool
acts_for h (Actor.Host k) = k == h
acts_for h Actor.Manager = false
acts_for h Actor.Sanitizer = false

abbrev pub items_of : HostId → Entry → List Item
items_of h e = if acts_for h e.actor then Item.Own e.act ∷ [] else delivered h e.effects

-- the host's items, in order
abbrev pub own_items : HostId → List Entry → List Item
own_items h journal = flat_map (items_of h) journal

-- ---- the device with that host alone

-- what the host's own command changes in its view
abbrev pub changes_with : HostId → View → Request → Result Outcome Rule → List Effect
changes_with h v q (Ok o) = o.changes
changes_with h v q (Err rule) = dropped h v q.opcode

abbrev pub own_changes : Configuration → HostId → View → Act → List Effect
own_changes c h v (Act.Command q) = changes_with h v q (host_result_in c h v q)
own_changes c h v act = []

abbrev pub with_log_records : View → List Event → View
with_log_records v events = record v { log = logged v.log events }

abbrev pub block_set : Configuration → HostId → View → ℕ → ℕ → View
block_set c h v r size =
    if nat_lt r (length c.regions) && is_supported (region_spec c r) size
    then with_log_records (record v { block = λ s. if s == r then size else v.block s }) (record (record_for h v EventKind.RegionUpdated false no_extent) { region = r } ∷ [])
    else v

-- the view after an item
abbrev pub solo_after : Configuration → HostId → View → Item → View
solo_after c h v (Item.Own (Act.Command q)) = view_after c h v (own_changes c h v (Act.Command q))
solo_after c h v (Item.Own act) = v
solo_after c h v (Item.Given xs) = let w = record v { offers = v.offers ++ xs ∷ [] } in
    with_log_records w (records_of_extents h w EventKind.Add xs)
solo_after c h v (Item.Asked xs) = with_log_records v (records_of_extents h v EventKind.Release xs)
solo_after c h v (Item.Taken xs) = let w = record v { accepted = cut_all xs v.accepted; changes = v.changes + 1 } in
    with_log_records w (records_of_extents h w EventKind.Forced xs)
solo_after c h v (Item.Block r size) = block_set c h v r size

abbrev pub solo_view : Configuration → HostId → List Item → View
solo_view c h items = fold (solo_after c h) (first_view c) items

-- whether an extent has the address
abbrev pub has_byte : ℕ → Extent → Bool
has_byte d x = nat_le x.start d && nat_lt d (x.start + x.length)

-- whether the host alone may use the address
abbrev pub is_granted : Configuration → HostId → View → ℕ → Bool
is_granted c h v d = is_ok (locate c h d) && list_any (has_byte d) v.accepted

-- whether the effect brings the host an extent with the address
abbrev pub accepts_byte : ℕ → Effect → Bool
accepts_byte d (Effect.Answer h xs) = list_any (has_byte d) xs
accepts_byte d e = false

-- the word at the address after an own act: an acceptance clears it, and a granted store writes it
abbrev pub solo_word_after : Configuration → HostId → ℕ → View → ℕ → Item → ℕ
solo_word_after c h d v n (Item.Own (Act.Store e value)) = if (e == d) && is_granted c h v d then value else n
solo_word_after c h d v n (Item.Own act) = if list_any (accepts_byte d) (own_changes c h v act) then 0 else n
solo_word_after c h d v n item = n

abbrev pub solo_word : Configuration → HostId → ℕ → List Item → ℕ
solo_word c h d items =
    (fold (λ (s : View × ℕ) item. (solo_after c h s.0 item, solo_word_after c h d s.0 s.1 item)) (first_view c, 0) items).1

-- a load: nothing is said of regions that are shared or not zeroed
abbrev pub solo_load : Configuration → HostId → List Item → ℕ → RegionSpec → SoloReply
solo_load c h items d spec =
    if not spec.shareable && spec.sanitize then SoloReply.Said (Reply.Word (solo_word c h d items)) else SoloReply.Unsaid

abbrev pub solo_granted : Configuration → HostId → List Item → Act → ℕ → RegionSpec → SoloReply
solo_granted c h items (Act.Load d) e spec = solo_load c h items d spec
solo_granted c h items act e spec = SoloReply.Said Reply.Stored

abbrev pub solo_access : Configuration → HostId → List Item → Act → ℕ → Result Place AccessFault → SoloReply
solo_access c h items act d (Err fault) = SoloReply.Said (Reply.Refused fault)
solo_access c h items act d (Ok p) =
    if list_any (has_byte d) (solo_view c h items).accepted
    then solo_granted c h items act d (region_spec c p.region)
    else SoloReply.Said (Reply.Refused AccessFault.NotGranted)

-- The reply of a device with that host alone, after these items.
abbrev pub solo : Configuration → HostId → List Item → Act → SoloReply
solo c h items (Act.Command q) = SoloReply.Said (reply_with q (host_result_in c h (solo_view c h items) q))
solo c h items (Act.Load d) = solo_access c h items (Act.Load d) d (locate c h d)
solo c h items (Act.Store d value) = solo_access c h items (Act.Store d value) d (locate c h d)
solo c h items (Act.Scrub n) = SoloReply.Unsaid

-- ---- isolation

-- the reply is what was said, unless nothing was
abbrev pub Agrees : SoloReply → Reply → Type 0
Agrees (SoloReply.Said said) reply = reply ≡ said
Agrees SoloReply.Unsaid reply = Unit {0}

-- An entry of the host replies as the device with that host alone.
abbrev pub AgreesAlone : Configuration → HostId → List Entry → Entry → Type 0
AgreesAlone c h before e = e.actor ≡ Actor.Host h → Agrees (solo c h (own_items h before) e.act) e.reply

-- Each reply to a host is what a device with that host alone replies to its own steps and deliveries.
abbrev pub Isolated : Configuration → List Entry → Type 0
Isolated c journal = (h : HostId) → Each (AgreesAlone c h) journal
