-- What is seen of a step that is lent.
use Rattle.cci_codec.specs.declared.messages.Response.{Response}
use Rattle.journal_core.specs.declared.{acts.Act.Act, acts.Reply.Reply, seen.ActKind.ActKind, seen.ReplySeen.ReplySeen, seen.ResponseSeen.ResponseSeen}

-- what kind of act it is
abbrev pub kind_of : Act → ActKind
kind_of (Act.Command q) = ActKind.Command
kind_of (Act.Load dpa) = ActKind.Load
kind_of (Act.Store dpa value) = ActKind.Store
kind_of (Act.Scrub most) = ActKind.Scrub

-- the response that is seen
abbrev pub seen_response : ResponseSeen → Response
seen_response r = record { tag = r.tag; opcode = r.opcode; code = r.code; payload = r.payload.now }

-- the reply that is seen
abbrev pub seen_reply : ReplySeen → Reply
seen_reply (ReplySeen.Answer r) = Reply.Answer (seen_response r)
seen_reply (ReplySeen.Word word) = Reply.Word word
seen_reply ReplySeen.Stored = Reply.Stored
seen_reply (ReplySeen.Refused fault) = Reply.Refused fault
seen_reply (ReplySeen.Scrubbed count) = Reply.Scrubbed count
