-- Records whose numbers and bytes are those of their 128 bytes.
use Rattle.std.specs.{Prelude.List, List.AllByRecursion}
use Rattle.event_records.specs.{Records.WritesRecord, Records.record_bytes, declared.events.Event.Event}
use Rattle.journal_core.specs.{Entries.effects, declared.entries.Entry.Entry, declared.outcome.Effect.Effect}

-- The bytes of the event are its one spelling.
abbrev pub IsSpelled : Event → Type 0
IsSpelled e = WritesRecord e (record_bytes e)

-- A record that goes into a log is spelled so.
abbrev pub IsSpelledIn : Effect → Type 0
IsSpelledIn (Effect.Logged l event) = IsSpelled event
IsSpelledIn e = Unit {0}

abbrev pub AreSpelledIn : List Effect → Type 0
AreSpelledIn new = AllByRecursion IsSpelledIn new

abbrev pub AreSpelled : List Entry → Type 0
AreSpelled journal = AreSpelledIn (effects journal)
