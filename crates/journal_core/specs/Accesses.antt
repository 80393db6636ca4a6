-- Loads and stores as entries: what was asked, what was replied, and that nothing else changed.
use Rattle.std.specs.Prelude.{ℕ, [], Option, Some, None, Result, Ok, Err}
use Rattle.cci_codec.specs.dcd_base.specs.declared.{failures.AccessFault.AccessFault, ids.HostId.HostId, steps.Actor.Actor, steps.Stamp.Stamp}
use Rattle.journal_core.specs.declared.{acts.Act.Act, acts.Reply.Reply, entries.Entry.Entry, loads_and_stores.Kind.Kind}

-- the entry of an access: it has no effects
abbrev pub access_entry : ℕ → ℕ → HostId → Act → Reply → Stamp → Entry
access_entry pass line h act reply stamp = record {
  pass = pass;
  line = line;
  actor = Actor.Host h;
  act = act;
  reply = reply;
  effects = [];
  stamp = stamp;
}

-- what is replied to a load, by the word that it found
abbrev pub load_said : Result ℕ AccessFault → Reply
load_said (Ok word) = Reply.Word word
load_said (Err fault) = Reply.Refused fault

-- what is replied to a store, unless it is refused
abbrev pub stored_unless : Option AccessFault → Reply
stored_unless None = Reply.Stored
stored_unless (Some fault) = Reply.Refused fault

-- ---- what is kept of an access

-- what was asked: a load is asked at a DPA, and a store brings a word
abbrev pub act_by : Kind → ℕ → ℕ → Act
act_by Kind.Load dpa word = Act.Load dpa
act_by Kind.Store dpa word = Act.Store dpa word

-- what was replied: a load finds a word
abbrev pub reply_by : Kind → ℕ → Option AccessFault → Reply
reply_by Kind.Load word None = Reply.Word word
reply_by Kind.Load word (Some fault) = Reply.Refused fault
reply_by Kind.Store word refused = stored_unless refused
