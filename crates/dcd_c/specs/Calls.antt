-- What the calls of the library do, as relations between the device before and behind them.
use Rattle.std.specs.Prelude.{◌≡◌, ◌≢◌, ℕ, ◌+◌, ◌<◌, ◌≤◌, ◌==◌, nat_lt, List, [], ◌++◌, drop, length, Option, Some, None, IsSome, Result, Ok, Err, if◌then◌else◌}
use Rattle.dcd_base.specs.declared.steps.{Actor.Actor, LogId.LogId}
use Rattle.cci_codec.specs.{Messages.ReadsRequest, Messages.message_fault, Messages.response_bytes, declared.faults.MessageFault.MessageFault, declared.messages.Request.Request}
use Rattle.cci_codec.specs.declared.messages.Response.{Response}
use Rattle.journal_core.specs.declared.acts.{Act.Act, Reply.Reply}
use Rattle.script_codec.specs.{LineByLine.Begins, LineByLine.FailsInHead, Unread.Unread, declared.faults.ScriptFault.ScriptFault, declared.heads.Head.Head}
use Rattle.device_plain.specs.{device_rules.specs.Legal.right_answer, Lives.ByEveryLife, Lives.IsLife, Lives.Living, Lives.payload_length}
use Rattle.dcd_c.specs.{Sessions.IsIdle, Sessions.Steps, declared.sessions.Session.Session, declared.faults.Fault.Fault}

-- the actor of a number: a host, or FEh for the Fabric Manager
abbrev pub actor_numbered : ℕ → ℕ → Option Actor
actor_numbered hosts n = if nat_lt n hosts then Some (Actor.Host n) else if n == 0xFE then Some Actor.Manager else None

-- the log of a number: a host's, or that of the Fabric Manager
abbrev pub log_numbered : ℕ → ℕ → Option LogId
log_numbered hosts n = if nat_lt n hosts then Some (LogId.Host n) else if n == 0xFE then Some LogId.Manager else None

-- A call on a device: with none there it is refused and changes nothing.
abbrev pub CallsDevice : {X : Type 0} → (Session → Session → Result X Fault → Type 0) → Option Session → Option Session → Result X Fault → Type 0
CallsDevice P (Some old) (Some new) outcome = P old new outcome
CallsDevice P None None outcome = outcome ≡ Err Fault.Closed
CallsDevice P old new outcome = ⊥

-- ---- messages

-- The message was answered: n bytes of the room have the response, and the others are as they were.
pub record RespondsWith (old new : Session) (number : ℕ) (message room filled : List ℕ) (n : ℕ) : Type 0 where
  pub actor : Actor
  pub request : Request
  pub response : Response
  pub named : actor_numbered old.device.config.hosts number ≡ Some actor
  pub reads : ReadsRequest message request
  pub steps : Steps old new actor (Act.Command request) (Reply.Answer response)
  pub count : n ≡ length (response_bytes response)
  pub most : n ≤ 2060
  pub bytes : filled ≡ response_bytes response ++ drop n room

-- The response needs n bytes, which is more than the room has: 12 where its header has no room, and else as many as it has.
pub record NeedsRoom (old : Living) (number : ℕ) (message : List ℕ) (room n : ℕ) : Type 0 where
  pub actor : Actor
  pub request : Request
  pub named : actor_numbered old.config.hosts number ≡ Some actor
  pub reads : ReadsRequest message request
  pub longer : room < n
  pub most : n ≤ 2060
  pub header : room < 12 → n ≡ 12
  pub right : 12 ≤ room → ByEveryLife old (λ life. 12 + payload_length (right_answer old.config life actor (Act.Command request)).0 ≡ n)

-- The first fault: the actor is looked for, then the message is read, then the room is asked.
abbrev pub RefusesMessage : Living → ℕ → List ℕ → ℕ → Fault → Type 0
RefusesMessage d number message room Fault.NoMemory = Unit {0}
RefusesMessage d number message room Fault.NoActor = actor_numbered d.config.hosts number ≡ None
RefusesMessage d number message room (Fault.Message fault) = IsSome (actor_numbered d.config.hosts number) × (fault ≢ MessageFault.NoMemory) × (message_fault message ≡ Some fault)
RefusesMessage d number message room (Fault.NoRoom n) = NeedsRoom d number message room n
RefusesMessage d number message room fault = ⊥

-- What sending a message does. Where it is not answered, nothing has changed.
abbrev pub SendsMessage : ℕ → List ℕ → List ℕ → List ℕ → Session → Session → Result ℕ Fault → Type 0
SendsMessage number message room filled old new (Ok n) = RespondsWith old new number message room filled n
SendsMessage number message room filled old new (Err fault) = IsIdle old new × (filled ≡ room) × RefusesMessage old.device number message (length room) fault

-- The same on a place: with no device in it the room is as it was.
abbrev pub SendsTo : ℕ → List ℕ → List ℕ → List ℕ → Option Session → Option Session → Result ℕ Fault → Type 0
SendsTo number message room filled (Some old) (Some new) outcome = SendsMessage number message room filled old new outcome
SendsTo number message room filled None None outcome = (outcome ≡ Err Fault.Closed) × (filled ≡ room)
SendsTo number message room filled old new outcome = ⊥

-- ---- accesses and turns of the sanitizer

-- What an access of a host does: it is a step also where it is refused.
abbrev pub AnswersAccess : {X : Type 0} → (X → Reply) → ℕ → Act → Session → Session → Result X Fault → Type 0
AnswersAccess reply host act old new (Ok x) = (host < old.device.config.hosts) × Steps old new (Actor.Host host) act (reply x)
AnswersAccess reply host act old new (Err Fault.NoMemory) = IsIdle old new
AnswersAccess reply host act old new (Err Fault.NoActor) = IsIdle old new × (old.device.config.hosts ≤ host)
AnswersAccess reply host act old new (Err (Fault.Access fault)) = (host < old.device.config.hosts) × Steps old new (Actor.Host host) act (Reply.Refused fault)
AnswersAccess reply host act old new (Err fault) = ⊥

abbrev pub AnswersLoad : ℕ → ℕ → Session → Session → Result ℕ Fault → Type 0
AnswersLoad host dpa = AnswersAccess Reply.Word host (Act.Load dpa)

abbrev pub AnswersStore : ℕ → ℕ → ℕ → Session → Session → Result (Unit {0}) Fault → Type 0
AnswersStore host dpa value = AnswersAccess (λ _. Reply.Stored) host (Act.Store dpa value)

-- What a turn of the sanitizer over at most so many granules does.
abbrev pub AnswersTurn : ℕ → Session → Session → Result ℕ Fault → Type 0
AnswersTurn most old new (Ok n) = Steps old new Actor.Sanitizer (Act.Scrub most) (Reply.Scrubbed n)
AnswersTurn most old new (Err Fault.NoMemory) = IsIdle old new
AnswersTurn most old new (Err fault) = ⊥

-- ---- opening and closing

-- The device is the one of the head that the bytes begin with, and nothing has happened on it.
pub record OpensAs (bytes : List ℕ) (s : Session) : Type 0 where
  pub head : Head
  pub unread : Unread
  pub begins : Begins bytes head unread
  pub config_is : s.device.config ≡ head.config
  pub fresh : IsLife [] s.device
  pub last : s.last ≡ []

-- What making a device of such bytes answers: it, or the first fault of the head.
abbrev pub MakesDevice : List ℕ → Result Session Fault → Type 0
MakesDevice bytes (Ok s) = OpensAs bytes s
MakesDevice bytes (Err Fault.NoMemory) = Unit {0}
MakesDevice bytes (Err (Fault.Head fault)) = (fault ≢ ScriptFault.NoMemory) × FailsInHead bytes fault
MakesDevice bytes (Err fault) = ⊥

-- What opening a place does: one that has a device keeps it.
abbrev pub OpensPlace : List ℕ → Option Session → Option Session → Result (Unit {0}) Fault → Type 0
OpensPlace bytes (Some old) (Some new) outcome = (outcome ≡ Err Fault.Opened) × IsIdle old new
OpensPlace bytes (Some old) None outcome = ⊥
OpensPlace bytes None (Some new) outcome = (outcome ≡ Ok tt) × OpensAs bytes new
OpensPlace bytes None None (Ok done) = ⊥
OpensPlace bytes None None (Err fault) = MakesDevice bytes (Err fault)

-- What closing a place does: there is no device in it then.
abbrev pub ClosesPlace : Option Session → Option Session → Result (Unit {0}) Fault → Type 0
ClosesPlace None new outcome = (outcome ≡ Err Fault.Closed) × (new ≡ None)
ClosesPlace (Some old) new outcome = (outcome ≡ Ok tt) × (new ≡ None)
