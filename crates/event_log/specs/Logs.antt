-- A log as the history of the device tells it.
use Rattle.std.specs.Prelude.{◌≡◌, ℕ, ◌+◌, ◌-◌, ◌%◌, ◌<◌, ◌≤◌, min, slice_index_or, List, [], ◌∷◌, ◌++◌, drop, fold, length}
use Rattle.dcd_base.specs.{Limits.host_records, Limits.manager_records, declared.steps.LogId.LogId}
use Rattle.event_records.specs.declared.events.Event.{Event}
use Rattle.event_log.specs.LogStates.{LogState, emptied, with_missed, with_record, without_oldest}

-- what went into a log: all records ever, how many of the oldest are gone, and how many found it full
pub record Log : Type 0 where
  pub ever : List Event
  pub cleared : ℕ
  pub missed : ℕ

abbrev pub empty_log : Log
empty_log = record { ever = []; cleared = 0; missed = 0 }

-- the records that are in the log, oldest first
abbrev pub records_in : Log → List Event
records_in log = drop log.cleared log.ever

-- handles go 1, 2, up to 65535, and then 1 again
abbrev pub next_handle : Log → ℕ
next_handle log = 1 + length log.ever % 65535

-- how many records the log can have, and how many more it can take
abbrev pub places_in : LogId → ℕ
places_in (LogId.Host h) = host_records
places_in LogId.Manager = manager_records

abbrev pub room_in : LogId → Log → ℕ
room_in l log = places_in l - length (records_in log)

-- the log with one record more, under the next handle
abbrev pub recorded : Log → Event → Log
recorded log event = record log { ever = log.ever ++ (record event { handle = next_handle log }) ∷ [] }

-- the log with these records behind it, each under the next handle
abbrev pub logged : Log → List Event → Log
logged log events = fold recorded log events

-- the log without so many more of its oldest records
abbrev pub cleared_of : ℕ → Log → Log
cleared_of n log = record log { cleared = log.cleared + n }

-- the log with one more record that found it full, and with none
abbrev pub missed_by : Log → Log
missed_by log = record log { missed = min 65535 (log.missed + 1) }

abbrev pub reset : Log → Log
reset log = record log { missed = 0 }

-- No more is gone than came, and handles go 1, 2, up to 65535, and then 1 again.
pub record IsHistory (log : Log) : Type 0 where
  pub sound : log.cleared ≤ length log.ever
  pub handles : (k : ℕ) (d : Event) → k < length log.ever → (slice_index_or log.ever k d).handle ≡ 1 + k % 65535

-- the log of so many places that has this history
abbrev pub state_of : ℕ → Log → LogState
state_of capacity log = record { capacity = capacity; records = records_in log; next = next_handle log; missed = log.missed }

-- What a call makes of the log is what the history makes of it.
pub record Follows (capacity : ℕ) (log : Log) : Type 0 where
  pub put : (event : Event) → state_of capacity (recorded log event) ≡ with_record (state_of capacity log) event
  pub missed : state_of capacity (missed_by log) ≡ with_missed (state_of capacity log)
  pub cleared : (n : ℕ) → state_of capacity (cleared_of n log) ≡ without_oldest n (state_of capacity log)
  pub cleared_whole : state_of capacity (reset (cleared_of (length (records_in log)) log)) ≡ emptied (state_of capacity log)

-- A history stays one.
pub record StaysHistory (log : Log) : Type 0 where
  pub put : (event : Event) → IsHistory (recorded log event)
  pub missed : IsHistory (missed_by log)
  pub cleared : (n : ℕ) → n ≤ length (records_in log) → IsHistory (cleared_of n log)
  pub reset_too : IsHistory (reset log)

-- The log is the one of this history.
pub record IsLogOf (l : LogId) (history : Log) (log : LogState) : Type 0 where
  pub is : log ≡ state_of (places_in l) history
  pub told : IsHistory history
