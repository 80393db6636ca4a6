-- The names of the commands, as they are written and read.
use Rattle.std.specs.Prelude.{ℕ, ◌==◌, List, Option, Some, None, if◌then◌else◌, codes}
use lib.Pointwise.{pointwise}
use Rattle.text_lines.specs.declared.commands.{HostCommand.HostCommand, ManagerCommand.ManagerCommand}

abbrev pub host_command_text : HostCommand → List ℕ
host_command_text HostCommand.GetEventRecords = codes "get-event-records"
host_command_text HostCommand.ClearEventRecords = codes "clear-event-records"
host_command_text HostCommand.GetConfiguration = codes "get-dc-configuration"
host_command_text HostCommand.GetExtentList = codes "get-dc-extent-list"
host_command_text HostCommand.AddResponse = codes "add-dc-response"
host_command_text HostCommand.Release = codes "release-dc"

abbrev pub manager_command_text : ManagerCommand → List ℕ
manager_command_text ManagerCommand.GetEventRecords = codes "get-event-records"
manager_command_text ManagerCommand.ClearEventRecords = codes "clear-event-records"
manager_command_text ManagerCommand.GetInfo = codes "get-dcd-info"
manager_command_text ManagerCommand.GetRegionConfiguration = codes "get-host-dc-region-configuration"
manager_command_text ManagerCommand.SetRegionConfiguration = codes "set-dc-region-configuration"
manager_command_text ManagerCommand.GetRegionExtentLists = codes "get-dc-region-extent-lists"
manager_command_text ManagerCommand.InitiateAdd = codes "initiate-dc-add"
manager_command_text ManagerCommand.InitiateRelease = codes "initiate-dc-release"
manager_command_text ManagerCommand.AddReference = codes "dc-add-reference"
manager_command_text ManagerCommand.RemoveReference = codes "dc-remove-reference"
manager_command_text ManagerCommand.ListTags = codes "dc-list-tags"

-- the command of a host that a word names
unfoldable pub host_command_said : List ℕ → Option HostCommand
host_command_said word =
    if pointwise ◌==◌ word (codes "get-event-records") then Some HostCommand.GetEventRecords
    else if pointwise ◌==◌ word (codes "clear-event-records") then Some HostCommand.ClearEventRecords
    else if pointwise ◌==◌ word (codes "get-dc-configuration") then Some HostCommand.GetConfiguration
    else if pointwise ◌==◌ word (codes "get-dc-extent-list") then Some HostCommand.GetExtentList
    else if pointwise ◌==◌ word (codes "add-dc-response") then Some HostCommand.AddResponse
    else if pointwise ◌==◌ word (codes "release-dc") then Some HostCommand.Release
    else None

-- the command of the manager that a word names
unfoldable pub manager_command_said : List ℕ → Option ManagerCommand
manager_command_said word =
    if pointwise ◌==◌ word (codes "get-event-records") then Some ManagerCommand.GetEventRecords
    else if pointwise ◌==◌ word (codes "clear-event-records") then Some ManagerCommand.ClearEventRecords
    else if pointwise ◌==◌ word (codes "get-dcd-info") then Some ManagerCommand.GetInfo
    else if pointwise ◌==◌ word (codes "get-host-dc-region-configuration") then Some ManagerCommand.GetRegionConfiguration
    else if pointwise ◌==◌ word (codes "set-dc-region-configuration") then Some ManagerCommand.SetRegionConfiguration
    else if pointwise ◌==◌ word (codes "get-dc-region-extent-lists") then Some ManagerCommand.GetRegionExtentLists
    else if pointwise ◌==◌ word (codes "initiate-dc-add") then Some ManagerCommand.InitiateAdd
    else if pointwise ◌==◌ word (codes "initiate-dc-release") then Some ManagerCommand.InitiateRelease
    else if pointwise ◌==◌ word (codes "dc-add-reference") then Some ManagerCommand.AddReference
    else if pointwise ◌==◌ word (codes "dc-remove-reference") then Some ManagerCommand.RemoveReference
    else if pointwise ◌==◌ word (codes "dc-list-tags") then Some ManagerCommand.ListTags
    else None
