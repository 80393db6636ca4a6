-- The bytes of a fabric, as a layout.
use Rattle.std.specs.Prelude.{◌≤◌, IsTrue, true, false, ℕ, ◌+◌, Bool, ◌&&◌, not, List, [], ◌∷◌, ◌++◌, length, flat_map, slice_get, Option, Some, None}
use Rattle.std.specs.{List.list_all, List.AllByRecursion, Int.w8, Int.w16, Int.w32}
use Rattle.dcd_base.specs.{declared.steps.Actor.Actor, Layouts.Reads, Layouts.Field, Layouts.Number, Layouts.Raw, Layouts.Reserved, Layouts.spelling}
use Rattle.cci_codec.specs.Messages.{request_fields}
use Rattle.region_config.specs.Configurations.{Configuration}
use Rattle.journal_core.specs.{declared.acts.Act.Act, Entries.fits}
use Rattle.report.specs.script_codec.specs.{declared.scripts.Script.Script, Scripts.act_fields, Scripts.script_fields, Scripts.IsScript}
use Rattle.tunnel_fabric.specs.declared.{fabric_lines.FabricLine.FabricLine, fabric_scripts.FabricScript.FabricScript}

abbrev pub fabric_magic : List ℕ
fabric_magic = 0x44 ∷ 0x43 ∷ 0x44 ∷ 0x46 ∷ []

-- a device is told by a script of version 1 without lines
abbrev pub bare_script : Configuration → Script
bare_script its_config = record { version = 1; lanes = 1; config = its_config; lines = [] }

-- how many bytes its script has, and the script
abbrev pub device_fields : Configuration → List Field
device_fields config = Number w32 (length (spelling (script_fields (bare_script config)))) ∷ script_fields (bare_script config)

-- a line of one device as in a script of its own, or a message to the tunnel and its length
abbrev pub fabric_line_fields : FabricLine → List Field
fabric_line_fields (FabricLine.Local device actor act) = Number w8 1 ∷ Number w8 device ∷ act_fields actor 0 act
fabric_line_fields (FabricLine.Tunnel q) = Number w8 2 ∷ Number w16 (12 + length q.payload) ∷ request_fields q

-- what stands before the devices
abbrev pub fabric_front : FabricScript → List Field
fabric_front f = Raw 4 fabric_magic ∷ Number w16 1 ∷ Number w8 (length f.configs) ∷ Reserved 1 ∷ []

abbrev pub fabric_fields : FabricScript → List Field
fabric_fields f = fabric_front f ++ (flat_map device_fields f.configs ++ (flat_map fabric_line_fields f.lines ++ Number w8 0 ∷ []))

-- ---- which fabrics have a spelling

-- the act fits the actor on this device, if there is one
abbrev pub fits_there : Option Configuration → Actor → Act → Bool
fits_there None actor act = false
fits_there (Some config) actor act = fits config.hosts actor act

abbrev pub is_manager : Actor → Bool
is_manager Actor.Manager = true
is_manager (Actor.Host h) = false
is_manager Actor.Sanitizer = false

-- A local line is an act of a host or of the sanitizer of one of the devices: the manager's come through the tunnel.
abbrev pub is_sound_fabric_line : List Configuration → FabricLine → Bool
is_sound_fabric_line configs (FabricLine.Local device actor act) = fits_there (slice_get configs device) actor act && not (is_manager actor)
is_sound_fabric_line configs (FabricLine.Tunnel q) = true

-- What a fabric has to be, so that it has a spelling.
pub record IsFabric (f : FabricScript) : Type 0 where
  pub some : 1 ≤ length f.configs
  pub few : length f.configs ≤ 8
  pub devices : AllByRecursion (λ (config : Configuration). IsScript (bare_script config)) f.configs
  pub sound : IsTrue (list_all (is_sound_fabric_line f.configs) f.lines)
  pub few_lines : length f.lines ≤ 65536

-- The bytes read as the fabric.
pub record ReadsFabric (bytes : List ℕ) (f : FabricScript) : Type 0 where
  pub fabric : IsFabric f
  pub reads : Reads bytes (fabric_fields f)
  pub short : length bytes ≤ 16777216
