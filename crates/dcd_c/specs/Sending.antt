-- The parts of sending a message.
use Rattle.std.specs.Prelude.{◌≡◌, ◌≢◌, ℕ, ◌+◌, ◌<◌, ◌≤◌, List, length, Some, Result, Ok, Err}
use Rattle.cci_codec.specs.{Messages.ReadsRequest, Messages.message_fault, declared.faults.MessageFault.MessageFault, declared.messages.Request.Request, declared.messages.Response.Response}
use Rattle.dcd_base.specs.declared.steps.Actor.{Actor}
use Rattle.journal_core.specs.declared.acts.{Act.Act, Reply.Reply}
use Rattle.device_plain.specs.{device_rules.specs.Legal.right_answer, Lives.ByEveryLife, Lives.Living, Lives.payload_length}
use Rattle.dcd_c.specs.{Sessions.IsIdle, Sessions.Steps, declared.sessions.Session.Session, declared.faults.Fault.Fault}

-- What reading a message answers: the request that the bytes are, or why they are none.
abbrev pub IsMessageRead : List ℕ → Result Request Fault → Type 0
IsMessageRead message (Ok request) = ReadsRequest message request
IsMessageRead message (Err Fault.NoMemory) = Unit {0}
IsMessageRead message (Err (Fault.Message fault)) = (fault ≢ MessageFault.NoMemory) × (message_fault message ≡ Some fault)
IsMessageRead message (Err fault) = ⊥

-- The device answered the command, and the response has room.
pub record CommandAnswered (actor : Actor) (request : Request) (room : ℕ) (old new : Session) (response : Response) : Type 0 where
  pub steps : Steps old new actor (Act.Command request) (Reply.Answer response)
  pub short : length response.payload ≤ 2048
  pub within : 12 + length response.payload ≤ room

-- The response would have n bytes, more than there is room for; or its header has no room.
pub record LacksRoom (actor : Actor) (request : Request) (room : ℕ) (old : Living) (n : ℕ) : Type 0 where
  pub longer : room < n
  pub most : n ≤ 2060
  pub header : room < 12 → n ≡ 12
  pub right : 12 ≤ room → ByEveryLife old (λ life. 12 + payload_length (right_answer old.config life actor (Act.Command request)).0 ≡ n)

abbrev pub Commands : Actor → Request → ℕ → Session → Session → Result Response Fault → Type 0
Commands actor request room old new (Ok response) = CommandAnswered actor request room old new response
Commands actor request room old new (Err Fault.NoMemory) = IsIdle old new
Commands actor request room old new (Err (Fault.NoRoom n)) = IsIdle old new × LacksRoom actor request room old.device n
Commands actor request room old new (Err fault) = ⊥
