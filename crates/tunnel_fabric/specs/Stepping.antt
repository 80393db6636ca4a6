-- What a line does to the devices.
use Rattle.std.specs.Prelude.{◌≡◌, ◌≢◌, ℕ, Bool, true, false, List, [], ◌++◌, length, map, flat_map, take, slice_get, Option, Some, None, ◌<◌, ◌≤◌}
use Rattle.std.specs.List.{AllByRecursion, enumerate_from}
use Rattle.dcd_base.specs.declared.steps.Actor.{Actor}
use Rattle.cci_codec.specs.declared.messages.{Request.Request, Response.Response}
use Rattle.journal_core.specs.{declared.acts.Act.Act, declared.acts.Reply.Reply, declared.entries.Entry.Entry, Entries.Each, Entries.fits, Merging.Numbered}
use Rattle.device_plain.specs.{device_rules.specs.Legal.Exclusive, device_rules.specs.Legal.Legal, isolation_laws.specs.Solo.Isolated, Numbering.IsCounted, Devices.Enters, Devices.Plain}
use Rattle.region_config.specs.Configurations.{Configuration}
use Rattle.report.specs.script_codec.specs.Covering.{pass_of}
use Rattle.tunnel_fabric.specs.Sending.{AreReplies, HasOnePass, IsShortReply, RanFabric, Sent, sent_by, sent_of, tunnel_of}
use Rattle.tunnel_fabric.specs.{Tunnels.inner_of, Tunnels.target_of, Tunnels.tunnel_rule, Tunnels.tunnel_wrapped, declared.fabric_lines.FabricLine.FabricLine}
use Rattle.tunnel_fabric.specs.declared.{fabric_scripts.FabricScript.FabricScript, opening.Opened.Opened, replies.Replied.Replied}

-- the act fits the actor on this device, if there is one
abbrev pub fits_device : Option Plain → Actor → Act → Bool
fits_device None actor act = false
fits_device (Some device) actor act = fits device.config.hosts actor act

-- The device of this number entered the act and replied so; the others are as they were.
pub record StepsOne (old new : List Plain) (number line : ℕ) (actor : Actor) (act : Act) (reply : Reply) : Type 0 where
  pub was : Plain
  pub now : Plain
  pub was_there : slice_get old number ≡ Some was
  pub is_there : slice_get new number ≡ Some now
  pub enters : Enters was now (pass_of was.config.hosts 1 actor 0) line actor act reply
  pub count : length new ≡ length old
  pub others : (k : ℕ) → k ≢ number → slice_get new k ≡ slice_get old k

-- The reply to a command is a response, whose payload is short.
abbrev pub AnswersCommand : Act → Reply → Type 0
AnswersCommand (Act.Command q) (Reply.Answer s) = length s.payload ≤ 2048
AnswersCommand (Act.Command q) (Reply.Word n) = ⊥
AnswersCommand (Act.Command q) Reply.Stored = ⊥
AnswersCommand (Act.Command q) (Reply.Refused fault) = ⊥
AnswersCommand (Act.Command q) (Reply.Scrubbed n) = ⊥
AnswersCommand (Act.Load d) reply = Unit {0}
AnswersCommand (Act.Store d value) reply = Unit {0}
AnswersCommand (Act.Scrub n) reply = Unit {0}

-- Fresh devices of these configurations.
abbrev pub fresh_devices : List Configuration → List Plain
fresh_devices configs = map (λ (c : Configuration). record { config = c; journal = [] }) configs

-- What opening a message answers: the device and the command to it, or the rule that it breaks.
abbrev pub IsOpened : ℕ → Request → Opened → Type 0
IsOpened devices outer (Opened.Reaches device inner) =
    (tunnel_rule devices outer ≡ None) × (device ≡ target_of outer) × (inner ≡ inner_of outer) × (device < devices)
IsOpened devices outer (Opened.Breaks rule) = tunnel_rule devices outer ≡ Some rule

-- ---- a run in its midst

-- The device did these, in order, and nothing else.
pub record DoesAll (was now : Plain) (items : List Sent) : Type 0 where
  pub entries : List Entry
  pub journal : now.journal ≡ was.journal ++ entries
  pub config : now.config ≡ was.config
  pub are : map sent_of entries ≡ items
  pub passes : AllByRecursion (HasOnePass was.config.hosts) entries

-- Each device did what the line of this number sends it, and there are replies to it, if it is a tunnel line.
pub record LineDone (number : ℕ) (line : FabricLine) (old new : List Plain) (before after : List Replied) : Type 0 where
  pub count : length new ≡ length old
  pub each : (k : ℕ) (was now : Plain) → slice_get old k ≡ Some was → slice_get new k ≡ Some now → DoesAll was now (sent_by (length old) k (number, line))
  pub added : List Replied
  pub replies : after ≡ before ++ added
  pub are : AreReplies new (tunnel_of (number, line)) added
  pub short : AllByRecursion IsShortReply added

-- the lines with their numbers, as many as were done
abbrev pub front_of : FabricScript → ℕ → List (ℕ × FabricLine)
front_of f count = enumerate_from 1 (take count f.lines)

-- The device did all that the first lines send it.
pub record DidFront (f : FabricScript) (count number : ℕ) (device : Plain) : Type 0 where
  pub config : slice_get f.configs number ≡ Some device.config
  pub entries : map sent_of device.journal ≡ flat_map (sent_by (length f.configs) number) (front_of f count)
  pub passes : AllByRecursion (HasOnePass device.config.hosts) device.journal

-- So many lines were done.
pub record RanFront (f : FabricScript) (done : ℕ) (devices : List Plain) (replies : List Replied) : Type 0 where
  pub count : length devices ≡ length f.configs
  pub each : (number : ℕ) (device : Plain) → slice_get devices number ≡ Some device → DidFront f done number device
  pub replied : AreReplies devices (flat_map tunnel_of (front_of f done)) replies
  pub short : AllByRecursion IsShortReply replies

-- the act of the line fits on these devices
abbrev pub line_fits : List Plain → FabricLine → Bool
line_fits devices (FabricLine.Local device actor act) = fits_device (slice_get devices device) actor act
line_fits devices (FabricLine.Tunnel q) = true

-- The message reached its device, which answered, and the reply wraps the answer.
pub record Reached (number : ℕ) (outer : Request) (old new : List Plain) (response : Response) : Type 0 where
  pub sound : tunnel_rule (length old) outer ≡ None
  pub inner : Response
  pub steps : StepsOne old new (target_of outer) number Actor.Manager (Act.Command (inner_of outer)) (Reply.Answer inner)
  pub is : response ≡ tunnel_wrapped outer inner
  pub short : length response.payload ≤ 2064

-- what every device keeps
pub record IsSoundDevice (device : Plain) : Type 0 where
  pub legal : Legal device.config device.journal
  pub exclusive : Exclusive device.config device.journal
  pub isolated : Isolated device.config device.journal
  pub numbered : Numbered device.journal
  pub counted : Each IsCounted device.journal

-- what is left of a run
abbrev pub ran : List Plain → List Replied → RanFabric
ran its_devices its_replies = record { devices = its_devices; replies = its_replies }
