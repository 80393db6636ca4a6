-- How the head of a script is read: its version, the lanes and the configuration.
use Rattle.std.specs.Prelude.{ℕ, ◌*◌, ◌==◌, List, Option, Some, None, Result, Ok, Err, if◌then◌else◌, bit_and}
use Rattle.std.specs.Int.{w8, w16, w32, w64}
use lib.Pointwise.{pointwise}
use Rattle.region_config.specs.{declared.region_spec.RegionSpec.RegionSpec, declared.faults.ConfigFault.ConfigFault, Configurations.Configuration, Setups.bad_count, Setups.config_fault}
use Rattle.script_codec.specs.{Fields.◌>>=◌, Fields.skip, Fields.part, Fields.number_from, Fields.many_from, Scripts.magic, Scripts.bad_version, Scripts.bad_lanes}
use Rattle.script_codec.specs.declared.{faults.ScriptFault.ScriptFault, heads.Head.Head}

-- the place behind the four bytes that every script begins with
unfoldable pub magic_from : List ℕ → ℕ → Result ℕ ScriptFault
magic_from bytes at = do
  next ← skip 4 bytes at
  if pointwise ◌==◌ (part 4 bytes at) magic then Ok next else Err ScriptFault.BadMagic

unfoldable pub version_from : List ℕ → ℕ → Result (ℕ × ℕ) ScriptFault
version_from bytes at = do
  version ← number_from w16 bytes at
  if bad_version version.0 then Err (ScriptFault.BadVersion version.0) else Ok version

-- the numbers of hosts and of regions
unfoldable pub counts_from : List ℕ → ℕ → Result ((ℕ × ℕ) × ℕ) ScriptFault
counts_from bytes at = do
  hosts ← number_from w8 bytes at
  regions ← number_from w8 bytes hosts.1
  if bad_count hosts.0 regions.0 then Err (ScriptFault.BadConfig ConfigFault.Count) else Ok ((hosts.0, regions.0), regions.1)

-- version 2 tells the number of lanes
unfoldable pub told_lanes_from : List ℕ → ℕ → Result (ℕ × ℕ) ScriptFault
told_lanes_from bytes at = do
  lanes ← number_from w8 bytes at
  if bad_lanes lanes.0 then Err (ScriptFault.BadLanes lanes.0) else Ok lanes

unfoldable pub lanes_and_reserved_from : List ℕ → ℕ → Result (ℕ × ℕ) ScriptFault
lanes_and_reserved_from bytes at = do
  lanes ← told_lanes_from bytes at
  next ← skip 5 bytes lanes.1
  Ok (lanes.0, next)

-- version 1 has one lane and does not say so
unfoldable pub one_lane_from : List ℕ → ℕ → Result (ℕ × ℕ) ScriptFault
one_lane_from bytes at = do
  next ← skip 6 bytes at
  Ok (1, next)

abbrev pub lanes_from : ℕ → List ℕ → ℕ → Result (ℕ × ℕ) ScriptFault
lanes_from version bytes at = if version == 2 then lanes_and_reserved_from bytes at else one_lane_from bytes at

-- a region and the place behind its 40 bytes; the flags' other bits are free
unfoldable pub region_from : List ℕ → ℕ → Result (RegionSpec × ℕ) ScriptFault
region_from bytes at = do
  units ← number_from w64 bytes at
  size ← number_from w64 bytes units.1
  block ← number_from w64 bytes size.1
  sizes ← number_from w64 bytes block.1
  handle ← number_from w32 bytes sizes.1
  flags ← number_from w8 bytes handle.1
  next ← skip 3 bytes flags.1
  Ok (
    record {
      decode_units = units.0;
      length = size.0;
      block = block.0;
      sizes = sizes.0;
      handle = handle.0;
      sanitize = bit_and flags.0 1 == 1;
      shareable = bit_and flags.0 2 == 2;
    },
    next,
  )

-- the configuration, unless it has a fault
abbrev pub sound_config : Configuration → Option ConfigFault → Result Configuration ScriptFault
sound_config config None = Ok config
sound_config config (Some fault) = Err (ScriptFault.BadConfig fault)

abbrev pub config_of : ℕ → List RegionSpec → List ℕ → Result Configuration ScriptFault
config_of hosts regions bases = let config : Configuration = record { hosts = hosts; regions = regions; bases = bases } in sound_config config (config_fault config)

unfoldable pub config_from : ℕ → ℕ → List ℕ → ℕ → Result (Configuration × ℕ) ScriptFault
config_from hosts count bytes at = do
  regions ← many_from region_from count bytes at
  bases ← many_from (number_from w64) (hosts * count) bytes regions.1
  config ← config_of hosts regions.0 bases.0
  Ok (config, bases.1)

-- the head, and the place behind it
unfoldable pub head_from : List ℕ → ℕ → Result (Head × ℕ) ScriptFault
head_from bytes at = do
  begun ← magic_from bytes at
  version ← version_from bytes begun
  reserved ← skip 2 bytes version.1
  counts ← counts_from bytes reserved
  lanes ← lanes_from version.0 bytes counts.1
  config ← config_from counts.0.0 counts.0.1 bytes lanes.1
  Ok (record { version = version.0; lanes = lanes.0; config = config.0 }, config.1)
