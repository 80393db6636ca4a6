-- What an event log is to its callers, and what each call makes of it.
use Rattle.std.specs.Prelude.{ℕ, ◌+◌, ◌%◌, ◌≤◌, ◌<◌, ◌==◌, Bool, if◌then◌else◌, Option, Some, None, List, [], ◌∷◌, ◌++◌, drop, length, min}
use Rattle.std.specs.List.{list_any}
use Rattle.event_records.specs.declared.events.Event.{Event}
use Rattle.event_log.specs.declared.faults.ClearFault.{ClearFault, TheVariants.OlderLeft, TheVariants.UnknownHandle}

-- how many records a log can have, those that are in it (the oldest first), the handle of the next one, and how many found it full
pub record LogState : Type 0 where
  pub capacity : ℕ
  pub records : List Event
  pub next : ℕ
  pub missed : ℕ

-- what holds of every log
pub record IsLog (log : LogState) : Type 0 where
  pub some : 0 < log.capacity
  pub most : log.capacity ≤ 128
  pub within : length log.records ≤ log.capacity
  pub handles : 0 < log.next
  pub last_handle : log.next ≤ 65535
  pub last_missed : log.missed ≤ 65535

-- an empty log for so many records
abbrev pub new_log : ℕ → LogState
new_log capacity = record { capacity = capacity; records = []; next = 1; missed = 0 }

-- handles go 1, 2, up to 65535, and then 1 again
abbrev pub handle_after : ℕ → ℕ
handle_after handle = 1 + handle % 65535

-- the log with the record behind the others, under the next handle
abbrev pub with_record : LogState → Event → LogState
with_record log event = record log {
  records = log.records ++ (record event { handle = log.next }) ∷ [];
  next = handle_after log.next;
}

-- the log with one more record that found it full
abbrev pub with_missed : LogState → LogState
with_missed log = record log { missed = min 65535 (log.missed + 1) }

-- the log without so many of its oldest records
abbrev pub without_oldest : ℕ → LogState → LogState
without_oldest n log = record log { records = drop n log.records }

-- the log without all its records, with none that found it full
abbrev pub emptied : LogState → LogState
emptied log = record log { records = []; missed = 0 }

-- whether one of the records has the handle
abbrev pub has_handle : ℕ → List Event → Bool
has_handle handle records = list_any (λ event. event.handle == handle) records

-- why a handle cannot be cleared that is not the oldest record's: it is a later record's, or no record's
abbrev pub handle_fault : ℕ → ℕ → List Event → ClearFault
handle_fault handle oldest records = if has_handle handle records then OlderLeft oldest else UnknownHandle handle

-- why the handles cannot be cleared: the first that is not that of the record in its place, counted from the oldest
abbrev pub clear_fault : List ℕ → List Event → Option ClearFault
clear_fault [] records = None
clear_fault (h ∷ handles) [] = Some (UnknownHandle h)
clear_fault (h ∷ handles) (e ∷ records) =
    if h == e.handle then clear_fault handles records else Some (handle_fault h e.handle (e ∷ records))
