-- What is printed of a fabric.
use Rattle.std.specs.{Prelude.ℕ, Prelude.List, Prelude.[], Prelude.◌∷◌, Prelude.◌++◌, Prelude.flat_map, Prelude.codes, Prelude.decimal, List.enumerate_from}
use Rattle.hex.specs.Hex.{encode_lower}
use Rattle.cci_codec.specs.Messages.{response_bytes}
use Rattle.device_plain.specs.Devices.{Plain}
use Rattle.report.specs.Texts.{line_of, text}
use Rattle.tunnel_fabric.specs.{declared.faults.FabricFault.FabricFault, declared.replies.Replied.Replied, Sending.RanFabric}

-- the reply to a message to the tunnel
unfoldable pub tunnel_line : Replied → List ℕ
tunnel_line replied = line_of (codes "t" ∷ decimal replied.line ∷ encode_lower (response_bytes replied.response) ∷ [])

unfoldable pub tunnel_lines : List Replied → List ℕ
tunnel_lines replies = flat_map tunnel_line replies

-- a device, and the text of its journal
unfoldable pub device_head : ℕ → List ℕ
device_head number = line_of (codes "device" ∷ decimal number ∷ [])

abbrev pub device_lines : ℕ × Plain → List ℕ
device_lines (number, device) = device_head number ++ text device.config device.journal

unfoldable pub devices_text : List Plain → List ℕ
devices_text devices = flat_map device_lines (enumerate_from 0 devices)

-- the replies, then the devices
abbrev pub fabric_text : RanFabric → List ℕ
fabric_text ran = tunnel_lines ran.replies ++ devices_text ran.devices

-- ---- what is printed where nothing ran

abbrev pub fabric_fault_number : FabricFault → ℕ
fabric_fault_number FabricFault.BadMagic = 1
fabric_fault_number (FabricFault.BadVersion n) = 2
fabric_fault_number (FabricFault.BadCount n) = 3
fabric_fault_number (FabricFault.Truncated at) = 4
fabric_fault_number (FabricFault.BadScript at fault) = 5
fabric_fault_number (FabricFault.HasLines at) = 6
fabric_fault_number (FabricFault.UnknownKind at) = 7
fabric_fault_number (FabricFault.UnknownTarget at) = 8
fabric_fault_number (FabricFault.BadMessage at fault) = 9
fabric_fault_number (FabricFault.AfterEnd at) = 10
fabric_fault_number FabricFault.TooLong = 11
fabric_fault_number (FabricFault.TooManyLines at) = 12
fabric_fault_number FabricFault.NoMemory = 0

-- how many bytes stand before the fault
abbrev pub fabric_fault_place : FabricFault → ℕ
fabric_fault_place FabricFault.BadMagic = 0
fabric_fault_place (FabricFault.BadVersion n) = 4
fabric_fault_place (FabricFault.BadCount n) = 6
fabric_fault_place (FabricFault.Truncated at) = at
fabric_fault_place (FabricFault.BadScript at fault) = at
fabric_fault_place (FabricFault.HasLines at) = at
fabric_fault_place (FabricFault.UnknownKind at) = at
fabric_fault_place (FabricFault.UnknownTarget at) = at
fabric_fault_place (FabricFault.BadMessage at fault) = at
fabric_fault_place (FabricFault.AfterEnd at) = at
fabric_fault_place FabricFault.TooLong = 16777216
fabric_fault_place (FabricFault.TooManyLines at) = at
fabric_fault_place FabricFault.NoMemory = 0

unfoldable pub fabric_refusal : FabricFault → List ℕ
fabric_refusal fault =
    line_of (codes "fabric" ∷ codes "refused:" ∷ decimal (fabric_fault_number fault) ∷ codes "at" ∷ decimal (fabric_fault_place fault) ∷ [])

unfoldable pub fabric_usage_line : List ℕ
fabric_usage_line = line_of (codes "usage:" ∷ codes "tunnel_fabric" ∷ [])
