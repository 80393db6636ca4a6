-- Which parts a line of a script has.
use Rattle.std.specs.Prelude.{◌≡◌, ◌⊎◌, ℕ, ◌-◌, ◌^◌, ◌==◌, nat_le, Bool, ◌&&◌, List, [], ◌∷◌, ◌++◌, length, Option, Some, None, Result, Ok, Err, if◌then◌else◌, codes}
use Rattle.std.specs.List.{list_all}
use lib.Pointwise.{pointwise}
use Rattle.cci_codec.specs.{Messages.ReadsRequest, Messages.request_bytes, declared.messages.Request.Request}
use Rattle.dcd_base.specs.{Layouts.spelling, declared.capacity.Extent.Extent, declared.capacity.Tag.Tag, declared.faults.PayloadFault.PayloadFault, declared.ids.HostId.HostId}
use Rattle.dcd_base.specs.declared.steps.Actor.{Actor}
use Rattle.fm_payloads.specs.{ManagerPayloads.manager_fields, ManagerPayloads.manager_request, declared.requests.FmRequest.FmRequest}
use Rattle.host_payloads.specs.{HostPayloads.host_fields, HostPayloads.host_request, HostPayloads.is_untagged, declared.requests.HostRequest.HostRequest}
use Rattle.journal_core.specs.declared.acts.Act.{Act}
use Rattle.script_codec.specs.declared.script_line.Line.{Line}
use Rattle.text_lines.specs.{Commands.host_command_text, Commands.manager_command_text, Lines.host_message, Lines.manager_message, Parts.Form, Parts.Part, Parts.ReadsParts, Parts.key}
use Rattle.text_lines.specs.declared.{actors.Frame.Frame, commands.HostCommand.HostCommand, commands.ManagerCommand.ManagerCommand, keywords.Keyword.Keyword}

-- ---- the named lines of commands

abbrev pub log_parts : ℕ → List Part
log_parts log = key Keyword.Log ∷ Part.Number Form.Count 255 log ∷ []

abbrev pub clearing_parts : ℕ → Bool → List ℕ → List Part
clearing_parts log all handles = key Keyword.Log ∷ Part.Number Form.Count 255 log ∷ Part.Flag Keyword.All all ∷ Part.Handles handles ∷ []

abbrev pub page_parts : ℕ → ℕ → ℕ → List Part
page_parts most first count = Part.May Keyword.First Form.Count most first ∷ key Keyword.Count ∷ Part.Number Form.Count most count ∷ []

abbrev pub most_32 : ℕ
most_32 = 2 ^ 32 - 1

abbrev pub most_64 : ℕ
most_64 = 2 ^ 64 - 1

-- which command a request of a host is, and what stands behind its name
abbrev pub host_command_of : HostRequest → HostCommand
host_command_of (HostRequest.GetEvents log) = HostCommand.GetEventRecords
host_command_of (HostRequest.ClearEvents log all handles) = HostCommand.ClearEventRecords
host_command_of (HostRequest.GetConfiguration count first) = HostCommand.GetConfiguration
host_command_of (HostRequest.GetExtents count first) = HostCommand.GetExtentList
host_command_of (HostRequest.AddResponse more xs) = HostCommand.AddResponse
host_command_of (HostRequest.GiveBack more xs) = HostCommand.Release

abbrev pub listing_parts : Bool → List Extent → List Part
listing_parts more xs = Part.Flag Keyword.More more ∷ Part.Extents 2729 xs ∷ []

abbrev pub host_tail : HostRequest → List Part
host_tail (HostRequest.GetEvents log) = log_parts log
host_tail (HostRequest.ClearEvents log all handles) = clearing_parts log all handles
host_tail (HostRequest.GetConfiguration count first) = page_parts 255 first count
host_tail (HostRequest.GetExtents count first) = page_parts most_32 first count
host_tail (HostRequest.AddResponse more xs) = listing_parts more xs
host_tail (HostRequest.GiveBack more xs) = listing_parts more xs

abbrev pub host_request_parts : HostRequest → List Part
host_request_parts request = Part.Fixed (host_command_text (host_command_of request)) ∷ host_tail request

-- the same of the manager
abbrev pub manager_command_of : FmRequest → ManagerCommand
manager_command_of (FmRequest.GetEvents log) = ManagerCommand.GetEventRecords
manager_command_of (FmRequest.ClearEvents log all handles) = ManagerCommand.ClearEventRecords
manager_command_of FmRequest.GetInfo = ManagerCommand.GetInfo
manager_command_of (FmRequest.GetRegions host count first) = ManagerCommand.GetRegionConfiguration
manager_command_of (FmRequest.SetRegion region sanitize block) = ManagerCommand.SetRegionConfiguration
manager_command_of (FmRequest.GetExtentLists host count first) = ManagerCommand.GetRegionExtentLists
manager_command_of (FmRequest.Add host policy region bytes tag xs) = ManagerCommand.InitiateAdd
manager_command_of (FmRequest.Remove host flags region bytes tag xs) = ManagerCommand.InitiateRelease
manager_command_of (FmRequest.AddReference tag) = ManagerCommand.AddReference
manager_command_of (FmRequest.RemoveReference tag) = ManagerCommand.RemoveReference
manager_command_of (FmRequest.ListTags first count) = ManagerCommand.ListTags

abbrev pub setting_parts : ℕ → ℕ → Bool → List Part
setting_parts region block sanitize =
    key Keyword.Region ∷ Part.Number Form.Count 255 region ∷ key Keyword.Block ∷ Part.Number Form.Size most_64 block ∷ Part.Flag Keyword.Sanitize sanitize ∷ []

abbrev pub spot_parts : ℕ → ℕ → List Part
spot_parts host region = Part.HostOf host ∷ key Keyword.Region ∷ Part.Number Form.Count 255 region ∷ []

abbrev pub capacity_parts : ℕ → Tag → List Extent → List Part
capacity_parts bytes tag xs = Part.May Keyword.Length Form.Size most_64 bytes ∷ Part.MayTag tag ∷ Part.Extents 1637 xs ∷ []

abbrev pub manager_tail : FmRequest → List Part
manager_tail (FmRequest.GetEvents log) = log_parts log
manager_tail (FmRequest.ClearEvents log all handles) = clearing_parts log all handles
manager_tail FmRequest.GetInfo = []
manager_tail (FmRequest.GetRegions host count first) = Part.HostOf host ∷ page_parts 255 first count
manager_tail (FmRequest.SetRegion region sanitize block) = setting_parts region block sanitize
manager_tail (FmRequest.GetExtentLists host count first) = Part.HostOf host ∷ page_parts most_32 first count
manager_tail (FmRequest.Add host policy region bytes tag xs) = spot_parts host region ++ Part.AddPolicy policy ∷ capacity_parts bytes tag xs
manager_tail (FmRequest.Remove host flags region bytes tag xs) = spot_parts host region ++ Part.ReleaseFlags flags ∷ capacity_parts bytes tag xs
manager_tail (FmRequest.AddReference tag) = Part.TagOf tag ∷ []
manager_tail (FmRequest.RemoveReference tag) = Part.TagOf tag ∷ []
manager_tail (FmRequest.ListTags first count) = page_parts most_32 first count

abbrev pub manager_request_parts : FmRequest → List Part
manager_request_parts request = Part.Fixed (manager_command_text (manager_command_of request)) ∷ manager_tail request

-- the message tag behind a command
abbrev pub tag_part : ℕ → Part
tag_part tag = Part.May Keyword.MessageTag Form.Count 255 tag

-- ---- lines

abbrev pub host_line_parts : Frame → HostId → ℕ → List Part → List Part
host_line_parts frame host lane parts = Part.ActorOf frame (Actor.Host host) lane ∷ parts

abbrev pub command_line : Frame → Actor → ℕ → List ℕ → List Part
command_line frame actor lane bytes = Part.Fixed (codes "command") ∷ Part.ActorOf frame actor lane ∷ Part.Pairs bytes ∷ []

abbrev pub load_parts : Frame → Actor → ℕ → ℕ → List Part
load_parts frame actor lane dpa = Part.ActorOf frame actor lane ∷ Part.Fixed (codes "load") ∷ Part.Number Form.Size most_64 dpa ∷ []

abbrev pub store_parts : Frame → Actor → ℕ → ℕ → ℕ → List Part
store_parts frame actor lane dpa value =
    Part.ActorOf frame actor lane ∷ Part.Fixed (codes "store") ∷ Part.Number Form.Size most_64 dpa ∷ Part.Number Form.Size most_64 value ∷ []

-- The words tell the message byte by byte.
pub record TellsBytes (frame : Frame) (actor : Actor) (lane : ℕ) (message : Request) (words : List (List ℕ)) : Type 0 where
  pub bytes : List ℕ
  pub message_is : ReadsRequest bytes message
  pub reads : ReadsParts words (command_line frame actor lane bytes)

-- The words name the command of a host.
pub record NamesHostCommand (frame : Frame) (host : HostId) (lane : ℕ) (message : Request) (words : List (List ℕ)) : Type 0 where
  pub tag : ℕ
  pub request : HostRequest
  pub message_is : message ≡ host_message tag request
  pub reads : ReadsParts words (host_line_parts frame host lane (host_request_parts request ++ tag_part tag ∷ []))

-- The words name the command of the manager.
pub record NamesManagerCommand (frame : Frame) (lane : ℕ) (message : Request) (words : List (List ℕ)) : Type 0 where
  pub tag : ℕ
  pub request : FmRequest
  pub message_is : message ≡ manager_message tag request
  pub reads : ReadsParts words (Part.ActorOf frame Actor.Manager lane ∷ manager_request_parts request ++ tag_part tag ∷ [])

-- The words say the act of the actor in that lane.
abbrev pub SaysAct : Frame → Actor → ℕ → Act → List (List ℕ) → Type 0
SaysAct frame (Actor.Host host) lane (Act.Command message) words = NamesHostCommand frame host lane message words ⊎ TellsBytes frame (Actor.Host host) lane message words
SaysAct frame (Actor.Host host) lane (Act.Load dpa) words = ReadsParts words (load_parts frame (Actor.Host host) lane dpa)
SaysAct frame (Actor.Host host) lane (Act.Store dpa value) words = ReadsParts words (store_parts frame (Actor.Host host) lane dpa value)
SaysAct frame (Actor.Host host) lane (Act.Scrub most) words = ⊥
SaysAct frame Actor.Manager lane (Act.Command message) words = NamesManagerCommand frame lane message words ⊎ TellsBytes frame Actor.Manager lane message words
SaysAct frame Actor.Manager lane (Act.Load dpa) words = ⊥
SaysAct frame Actor.Manager lane (Act.Store dpa value) words = ⊥
SaysAct frame Actor.Manager lane (Act.Scrub most) words = ⊥
SaysAct frame Actor.Sanitizer lane (Act.Scrub most) words = (lane ≡ 0) × ReadsParts words (Part.Fixed (codes "scrub") ∷ Part.Number Form.Count 65535 most ∷ [])
SaysAct frame Actor.Sanitizer lane (Act.Command message) words = ⊥
SaysAct frame Actor.Sanitizer lane (Act.Load dpa) words = ⊥
SaysAct frame Actor.Sanitizer lane (Act.Store dpa value) words = ⊥

-- The words say the line.
abbrev pub SaysLine : Frame → Line → List (List ℕ) → Type 0
SaysLine frame Line.Mark words = ReadsParts words (Part.Fixed (codes "mark") ∷ [])
SaysLine frame (Line.Do actor lane act) words = SaysAct frame actor lane act words

-- ---- the line that is printed

-- whether a named line has room for the lists of the request, and says all of their extents
abbrev pub has_room_for : ℕ → List Extent → Bool
has_room_for most xs = nat_le (length xs) most && list_all is_untagged xs

abbrev pub host_fits_line : HostRequest → Bool
host_fits_line (HostRequest.ClearEvents log all handles) = nat_le (length handles) 255
host_fits_line (HostRequest.AddResponse more xs) = has_room_for 2729 xs
host_fits_line (HostRequest.GiveBack more xs) = has_room_for 2729 xs
host_fits_line request = Bool.true

abbrev pub manager_fits_line : FmRequest → Bool
manager_fits_line (FmRequest.ClearEvents log all handles) = nat_le (length handles) 255
manager_fits_line (FmRequest.Add host policy region bytes tag xs) = has_room_for 1637 xs
manager_fits_line (FmRequest.Remove host flags region bytes tag xs) = has_room_for 1637 xs
manager_fits_line request = Bool.true

-- whether a payload is the spelling of what a named line says, the one with reserved bytes and bits 0
abbrev pub has_host_form : HostRequest → List ℕ → Bool
has_host_form request payload = host_fits_line request && pointwise ◌==◌ (spelling (host_fields request)) payload

abbrev pub has_manager_form : FmRequest → List ℕ → Bool
has_manager_form request payload = manager_fits_line request && pointwise ◌==◌ (spelling (manager_fields request)) payload

-- the request that the named line of a message says, where the message has one
abbrev pub host_named : List ℕ → Result HostRequest PayloadFault → Option HostRequest
host_named payload (Ok request) = if has_host_form request payload then Some request else None
host_named payload (Err fault) = None

abbrev pub manager_named : List ℕ → Result FmRequest PayloadFault → Option FmRequest
manager_named payload (Ok request) = if has_manager_form request payload then Some request else None
manager_named payload (Err fault) = None

abbrev pub host_form : Frame → HostId → ℕ → Request → Option HostRequest → List Part
host_form frame host lane message (Some request) = host_line_parts frame host lane (host_request_parts request ++ tag_part message.tag ∷ [])
host_form frame host lane message None = command_line frame (Actor.Host host) lane (request_bytes message)

abbrev pub manager_form : Frame → ℕ → Request → Option FmRequest → List Part
manager_form frame lane message (Some request) = Part.ActorOf frame Actor.Manager lane ∷ manager_request_parts request ++ tag_part message.tag ∷ []
manager_form frame lane message None = command_line frame Actor.Manager lane (request_bytes message)

-- the parts of the line that is printed for an act: the named line of a command exactly where its payload is the spelling of
-- what the named line says
abbrev pub act_parts : Frame → Actor → ℕ → Act → List Part
act_parts frame (Actor.Host host) lane (Act.Command message) = host_form frame host lane message (host_named message.payload (host_request message.opcode message.payload))
act_parts frame Actor.Manager lane (Act.Command message) = manager_form frame lane message (manager_named message.payload (manager_request message.opcode message.payload))
act_parts frame Actor.Sanitizer lane (Act.Command message) = []
act_parts frame actor lane (Act.Load dpa) = load_parts frame actor lane dpa
act_parts frame actor lane (Act.Store dpa value) = store_parts frame actor lane dpa value
act_parts frame actor lane (Act.Scrub most) = Part.Fixed (codes "scrub") ∷ Part.Number Form.Count 65535 most ∷ []

-- the parts of a line as it is printed
unfoldable pub line_parts : Frame → Line → List Part
line_parts frame Line.Mark = Part.Fixed (codes "mark") ∷ []
line_parts frame (Line.Do actor lane act) = act_parts frame actor lane act
