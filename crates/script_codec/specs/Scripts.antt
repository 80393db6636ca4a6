-- The bytes of a script, as a layout.
use Rattle.cci_codec.specs.Messages.{request_fields}
use Rattle.cci_codec.specs.dcd_base.specs.{Layouts.Reads, Layouts.Field, Layouts.Number, Layouts.Masked, Layouts.Raw, Layouts.Reserved, Words.flag_of, declared.steps.Actor.Actor}
use Rattle.journal_core.specs.{Entries.fits, declared.acts.Act.Act}
use Rattle.std.specs.{List.list_all, Int.w8, Int.w16, Int.w32, Int.w64}
use Rattle.std.specs.Prelude.{◌≡◌, ◌≤◌, IsTrue, true, ℕ, ◌+◌, ◌*◌, Bool, ◌&&◌, ◌||◌, not, ◌==◌, nat_lt, List, [], ◌∷◌, ◌++◌, length, map, flat_map, None, if◌then◌else◌}
use Rattle.region_config.specs.{declared.region_spec.RegionSpec.RegionSpec, Setups.config_fault}
use Rattle.script_codec.specs.declared.{script_line.Line.Line, scripts.Script.Script}

abbrev pub magic : List ℕ
magic = 0x44 ∷ 0x43 ∷ 0x44 ∷ 0x53 ∷ []

-- bit 0 says that the region sanitizes, bit 1 that it is shareable
abbrev pub region_fields : RegionSpec → List Field
region_fields spec =
    Number w64 spec.decode_units ∷ Number w64 spec.length ∷ Number w64 spec.block ∷ Number w64 spec.sizes
    ∷ Number w32 spec.handle ∷ Masked 3 (flag_of spec.sanitize + 2 * flag_of spec.shareable) ∷ Reserved 3 ∷ []

-- only version 2 tells the number of lanes
abbrev pub lanes_fields : ℕ → ℕ → List Field
lanes_fields version lanes = if version == 2 then Number w8 lanes ∷ Reserved 5 ∷ [] else Reserved 6 ∷ []

-- the first 16 bytes
abbrev pub start_fields : Script → List Field
start_fields s =
    Raw 4 magic ∷ Number w16 s.version ∷ Reserved 2 ∷ Number w8 s.config.hosts ∷ Number w8 (length s.config.regions)
    ∷ lanes_fields s.version s.lanes

-- then the regions, and the bases host by host
abbrev pub script_head : Script → List Field
script_head s = start_fields s ++ flat_map region_fields s.config.regions ++ map (λ base. Number w64 base) s.config.bases

-- a host's number and sixteen times its lane, or FEh for the manager
abbrev pub actor_byte : Actor → ℕ → ℕ
actor_byte (Actor.Host h) lane = h + 16 * lane
actor_byte Actor.Manager lane = 0xFE
actor_byte Actor.Sanitizer lane = 0xFF

abbrev pub act_fields : Actor → ℕ → Act → List Field
act_fields actor lane (Act.Command q) =
    Number w8 1 ∷ Number w8 (actor_byte actor lane) ∷ Number w16 (12 + length q.payload) ∷ request_fields q
act_fields actor lane (Act.Load d) = Number w8 2 ∷ Number w8 (actor_byte actor lane) ∷ Number w64 d ∷ []
act_fields actor lane (Act.Store d value) =
    Number w8 3 ∷ Number w8 (actor_byte actor lane) ∷ Number w64 d ∷ Number w64 value ∷ []
act_fields actor lane (Act.Scrub n) = Number w8 4 ∷ Number w16 n ∷ []

abbrev pub line_fields : Line → List Field
line_fields (Line.Do actor lane act) = act_fields actor lane act
line_fields Line.Mark = Number w8 5 ∷ []

abbrev pub script_fields : Script → List Field
script_fields s = script_head s ++ flat_map line_fields s.lines ++ Number w8 0 ∷ []

-- version 1 has one lane, and version 2 has one to four
abbrev pub bad_version : ℕ → Bool
bad_version version = not (version == 1) && not (version == 2)

abbrev pub bad_lanes : ℕ → Bool
bad_lanes lanes = (lanes == 0) || nat_lt 4 lanes

abbrev pub are_lanes : ℕ → ℕ → Bool
are_lanes version lanes = if version == 1 then lanes == 1 else (version == 2) && not (bad_lanes lanes)

-- the manager and the sanitizer have lane 0 alone
abbrev pub is_lane : ℕ → Actor → ℕ → Bool
is_lane lanes (Actor.Host h) lane = nat_lt lane lanes
is_lane lanes Actor.Manager lane = lane == 0
is_lane lanes Actor.Sanitizer lane = lane == 0

abbrev pub is_sound_line : ℕ → ℕ → Line → Bool
is_sound_line hosts lanes (Line.Do actor lane act) = fits hosts actor act && is_lane lanes actor lane
is_sound_line hosts lanes Line.Mark = true

-- What a script has to be, so that it has a spelling.
pub record IsScript (s : Script) : Type 0 where
  pub versioned : IsTrue (are_lanes s.version s.lanes)
  pub configured : config_fault s.config ≡ None
  pub based : length s.config.bases ≡ s.config.hosts * length s.config.regions
  pub sound : IsTrue (list_all (is_sound_line s.config.hosts s.lanes) s.lines)
  pub few : length s.lines ≤ 65536

-- The bytes read as the script.
pub record ReadsScript (bytes : List ℕ) (s : Script) : Type 0 where
  pub script : IsScript s
  pub reads : Reads bytes (script_fields s)
  pub short : length bytes ≤ 16777216
