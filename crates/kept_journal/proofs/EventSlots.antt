-- An event that was put into slots, read back.
use Rattle.std.proofs.Common.{◌≡◌, ℕ, ◌%◌, ◌^◌, ◌<◌, Bool, true, false, refl}
use Rattle.event_records.specs.{declared.events.Event.Event, declared.events.EventKind.EventKind, Records.kind_number}
use Rattle.dcd_base.specs.{Words.flag_of, declared.steps.LogId.LogId}
use Rattle.std.proofs.lemmas.Bool.{lt-ltb}
use Rattle.journal_core.specs.declared.outcome.HeldKind.{HeldKind}
use Rattle.kept_journal.specs.declared.slots.TheConstants.{EVENT_KIND, FLAG}
use Rattle.kept_journal.specs.Slots.{FitsWhat, slotted_event, slotted_extent, number_of_held, slotted_flag, slotted_held, slotted_kind, slotted_log, telling_event, telling_extent, telling_log, telling_what, with_slot}

pub kind_back : (s : ℕ → ℕ) (kind : EventKind) → slotted_kind (with_slot s EVENT_KIND (kind_number kind)) ≡ kind
kind_back s EventKind.Add = refl
kind_back s EventKind.Release = refl
kind_back s EventKind.Forced = refl
kind_back s EventKind.RegionUpdated = refl
kind_back s EventKind.AddResponse = refl
kind_back s EventKind.Released = refl

pub flag_back : (s : ℕ → ℕ) (flag : Bool) → slotted_flag (with_slot s FLAG (flag_of flag)) ≡ flag
flag_back s true = refl
flag_back s false = refl

pub event_back : (s : ℕ → ℕ) (e : Event) → FitsWhat e → slotted_extent (telling_extent (telling_what s e) e.extent) ≡ e.extent → e.extents_available % 2 ^ 32 ≡ e.extents_available → e.tags_available % 2 ^ 32 ≡ e.tags_available → slotted_event (telling_event s e) ≡ e
event_back s e fits extent extents tags = λ i. record {
  handle = fits.handle i;
  kind = kind_back s e.kind i;
  host = fits.host i;
  region = fits.region i;
  more = flag_back s e.more i;
  extent = extent i;
  extents_available = extents i;
  tags_available = tags i;
}

pub held_back : (s : ℕ → ℕ) (kind : HeldKind) → slotted_held (with_slot s FLAG (number_of_held kind)) ≡ kind
held_back s HeldKind.Responses = refl
held_back s HeldKind.Releases = refl

pub log_back : (s : ℕ → ℕ) (h : ℕ) → h < 256 → slotted_log (telling_log s (LogId.Host h)) ≡ LogId.Host h
log_back s h small = rw (lt-ltb h 256 small) refl
