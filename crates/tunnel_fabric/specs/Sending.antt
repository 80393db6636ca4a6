-- What each device of a fabric is sent, and what a run of the fabric leaves.
use Rattle.std.specs.Prelude.{◌≡◌, ℕ, ◌==◌, ◌≤◌, IsTrue, true, Bool, List, [], ◌∷◌, length, map, flat_map, slice_get, Option, Some, None, if◌then◌else◌}
use Rattle.std.specs.List.{enumerate_from, list_all, AllByRecursion, Contains}
use Rattle.dcd_base.specs.declared.steps.Actor.{Actor}
use Rattle.cci_codec.specs.declared.messages.{Request.Request, Response.Response}
use Rattle.journal_core.specs.{declared.acts.Act.Act, declared.acts.Reply.Reply, declared.entries.Entry.Entry, Entries.Each, Merging.Numbered}
use Rattle.device_plain.specs.{device_rules.specs.Legal.Exclusive, device_rules.specs.Legal.Legal, isolation_laws.specs.Solo.Isolated, Devices.Plain, Numbering.IsCounted}
use Rattle.report.specs.script_codec.specs.Covering.{pass_of}
use Rattle.region_config.specs.Configurations.{Configuration}
use Rattle.tunnel_fabric.specs.{FabricLayout.fits_there, Tunnels.inner_of, Tunnels.tunnel_refused, Tunnels.target_of, Tunnels.tunnel_rule, Tunnels.tunnel_wrapped}
use Rattle.tunnel_fabric.specs.declared.{fabric_lines.FabricLine.FabricLine, fabric_scripts.FabricScript.FabricScript, replies.Replied.Replied, rules.TunnelRule.TunnelRule}

-- ---- what a device is sent

-- the number of a line, and what its actor does
pub record Sent : Type 0 where
  pub line : ℕ
  pub actor : Actor
  pub act : Act

-- the same of an entry
abbrev pub sent_of : Entry → Sent
sent_of e = record { line = e.line; actor = e.actor; act = e.act }

-- a message that breaks no rule is the manager's command to the device that it names
abbrev pub sent_through : Option TunnelRule → ℕ → ℕ → Request → List Sent
sent_through (Some rule) device number outer = []
sent_through None device number outer =
    if target_of outer == device then record { line = number; actor = Actor.Manager; act = Act.Command (inner_of outer) } ∷ [] else []

-- what the device is sent by a line of this number
abbrev pub sent_by : ℕ → ℕ → ℕ × FabricLine → List Sent
sent_by devices device (number, FabricLine.Local its_device its_actor its_act) =
    if its_device == device then record { line = number; actor = its_actor; act = its_act } ∷ [] else []
sent_by devices device (number, FabricLine.Tunnel outer) = sent_through (tunnel_rule devices outer) device number outer

-- What the device is sent, in order: its local lines, and the commands that reach it through the tunnel.
unfoldable pub sent : FabricScript → ℕ → List Sent
sent f device = flat_map (sent_by (length f.configs) device) (enumerate_from 1 f.lines)

-- ---- what can be run

-- the act of a local line fits its actor on its device
abbrev pub fits_fabric_line : List Configuration → FabricLine → Bool
fits_fabric_line configs (FabricLine.Local device actor act) = fits_there (slice_get configs device) actor act
fits_fabric_line configs (FabricLine.Tunnel q) = true

pub record CanRun (f : FabricScript) : Type 0 where
  pub some : 1 ≤ length f.configs
  pub few : length f.configs ≤ 8
  pub fits : IsTrue (list_all (fits_fabric_line f.configs) f.lines)
  pub few_lines : length f.lines ≤ 65536

-- ---- what a run leaves

-- The devices after a run, and the replies to the tunnel lines.
pub record RanFabric : Type 0 where
  pub devices : List Plain
  pub replies : List Replied

-- The entry has the pass of its actor, each host having one lane.
abbrev pub HasOnePass : ℕ → Entry → Type 0
HasOnePass hosts e = e.pass ≡ pass_of hosts 1 e.actor 0

-- The device of this number did what it was sent, in order, each once, and nothing else. Its journal is legal, no granule of a
-- region that is not shareable ever has two hosts in it, and each reply to a host is what a device with that host alone replies;
-- it is numbered, and each run of accesses is counted from 1.
pub record DidAllSent (f : FabricScript) (number : ℕ) (device : Plain) : Type 0 where
  pub config : slice_get f.configs number ≡ Some device.config
  pub legal : Legal device.config device.journal
  pub exclusive : Exclusive device.config device.journal
  pub isolated : Isolated device.config device.journal
  pub entries : map sent_of device.journal ≡ sent f number
  pub passes : AllByRecursion (HasOnePass device.config.hosts) device.journal
  pub numbered : Numbered device.journal
  pub counted : Each IsCounted device.journal

-- the tunnel lines with their numbers
abbrev pub tunnel_of : ℕ × FabricLine → List (ℕ × Request)
tunnel_of (number, FabricLine.Local device actor act) = []
tunnel_of (number, FabricLine.Tunnel outer) = (number, outer) ∷ []

abbrev pub tunnels : FabricScript → List (ℕ × Request)
tunnels f = flat_map tunnel_of (enumerate_from 1 f.lines)

-- the journal of a device, if there is one
abbrev pub journal_in : Option Plain → List Entry
journal_in None = []
journal_in (Some device) = device.journal

-- The response wraps that of the entry of this line.
pub record Wraps (journal : List Entry) (number : ℕ) (outer : Request) (response : Response) : Type 0 where
  pub entry : Entry
  pub entered : Contains journal entry
  pub line : entry.line ≡ number
  pub inner : Response
  pub reply : entry.reply ≡ Reply.Answer inner
  pub is : response ≡ tunnel_wrapped outer inner

-- The response is the broken rule's, or wraps that of the device which the message reached.
abbrev pub IsReplyBy : Option TunnelRule → List Plain → ℕ → Request → Response → Type 0
IsReplyBy (Some rule) devices number outer response = response ≡ tunnel_refused outer rule
IsReplyBy None devices number outer response = Wraps (journal_in (slice_get devices (target_of outer))) number outer response

pub record IsReply (devices : List Plain) (its_line : ℕ) (outer : Request) (replied : Replied) : Type 0 where
  pub line : replied.line ≡ its_line
  pub response : IsReplyBy (tunnel_rule (length devices) outer) devices its_line outer replied.response

-- The payload of the response has at most the 4 bytes of the tunnel, the 12 of a header and the 2,048 that a device answers.
abbrev pub IsShortReply : Replied → Type 0
IsShortReply replied = length replied.response.payload ≤ 2064

-- Each tunnel line has its reply, in order.
abbrev pub AreReplies : List Plain → List (ℕ × Request) → List Replied → Type 0
AreReplies devices [] [] = Unit {0}
AreReplies devices [] (reply ∷ replies) = ⊥
AreReplies devices (line ∷ lines) [] = ⊥
AreReplies devices (line ∷ lines) (reply ∷ replies) = IsReply devices line.0 line.1 reply × AreReplies devices lines replies

-- The fabric was run.
pub record IsFabricRun (f : FabricScript) (ran : RanFabric) : Type 0 where
  pub count : length ran.devices ≡ length f.configs
  pub devices : (number : ℕ) (device : Plain) → slice_get ran.devices number ≡ Some device → DidAllSent f number device
  pub replies : AreReplies ran.devices (tunnels f) ran.replies
