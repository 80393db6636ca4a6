-- Which texts say a script.
use Rattle.std.specs.Prelude.{◌≡◌, ℕ, zero, suc, ◌+◌, ◌*◌, ◌^◌, ◌==◌, List, [], ◌∷◌, ◌++◌, length, map, take, drop, if◌then◌else◌, codes}
use Rattle.region_config.specs.{Configurations.Configuration, declared.region_spec.RegionSpec.RegionSpec}
use Rattle.text_lines.specs.{Layouts.SaysLine, Layouts.most_32, Layouts.most_64, Parts.Form, Parts.Part, Parts.ReadsParts, Parts.key, Texts.words_of_lines, declared.actors.Frame.Frame}
use Rattle.text_lines.specs.{declared.keywords.Keyword.Keyword, script_codec.specs.Writing.IsWritable, script_codec.specs.declared.script_line.Line.Line}
use Rattle.text_lines.specs.script_codec.specs.declared.scripts.Script.{Script}

-- the version, and the lanes where it tells them
abbrev pub start_parts : ℕ → ℕ → List Part
start_parts version lanes =
    if version == 2
    then key Keyword.Script ∷ Part.Fixed (codes "2") ∷ key Keyword.Lanes ∷ Part.Number Form.Count 4 lanes ∷ []
    else key Keyword.Script ∷ Part.Fixed (codes "1") ∷ []

-- a region of this number
abbrev pub region_parts : ℕ → RegionSpec → List Part
region_parts number region =
    key Keyword.Region ∷ Part.Number Form.Count 254 number
    ∷ key Keyword.Length ∷ Part.Number Form.Size most_64 region.length
    ∷ key Keyword.Block ∷ Part.Number Form.Size most_64 region.block
    ∷ key Keyword.Sizes ∷ Part.Sizes region.sizes
    ∷ key Keyword.Decode ∷ Part.Number Form.Size most_64 (region.decode_units * 2 ^ 28)
    ∷ Part.May Keyword.Handle Form.Count most_32 region.handle
    ∷ Part.Flag Keyword.Sanitize region.sanitize
    ∷ Part.Flag Keyword.Shareable region.shareable
    ∷ []

abbrev pub base_parts : List ℕ → List Part
base_parts bases = map (Part.Number Form.Size most_64) bases

-- a host of this number, with a base for each region
abbrev pub host_parts : ℕ → List ℕ → List Part
host_parts number bases = key Keyword.Host ∷ Part.Number Form.Count 254 number ∷ key Keyword.Bases ∷ base_parts bases

-- the bases of a host
abbrev pub bases_of_host : Configuration → ℕ → List ℕ
bases_of_host c host = take (length c.regions) (drop (host * length c.regions) c.bases)

abbrev pub regions_parts : ℕ → List RegionSpec → List (List Part)
regions_parts number [] = []
regions_parts number (region ∷ regions) = region_parts number region ∷ regions_parts (number + 1) regions

-- so many hosts from this number on, each with so many bases
abbrev pub hosts_parts : ℕ → ℕ → ℕ → List ℕ → List (List Part)
hosts_parts zero number regions bases = []
hosts_parts (suc n) number regions bases = host_parts number (take regions bases) ∷ hosts_parts n (number + 1) regions (drop regions bases)

-- the lines of the head
abbrev pub head_parts : Script → List (List Part)
head_parts s =
    start_parts s.version s.lanes ∷ regions_parts 0 s.config.regions
    ++ hosts_parts s.config.hosts 0 (length s.config.regions) s.config.bases

-- Each line has these parts.
abbrev pub ReadsLines : List (List (List ℕ)) → List (List Part) → Type 0
ReadsLines [] [] = Unit {0}
ReadsLines [] (parts ∷ rest) = ⊥
ReadsLines (words ∷ lines) [] = ⊥
ReadsLines (words ∷ lines) (parts ∷ rest) = ReadsParts words parts × ReadsLines lines rest

-- Each line says its line of the script.
abbrev pub SaysLines : Frame → List (List (List ℕ)) → List Line → Type 0
SaysLines frame [] [] = Unit {0}
SaysLines frame [] (line ∷ rest) = ⊥
SaysLines frame (words ∷ lines) [] = ⊥
SaysLines frame (words ∷ lines) (line ∷ rest) = SaysLine frame line words × SaysLines frame lines rest

-- what the lines of a script depend on
abbrev pub frame_of_script : Script → Frame
frame_of_script s = record { version = s.version; hosts = s.config.hosts; lanes = s.lanes }

-- The text says the script: its lines with words are those of the head, and then one for each line of the script.
pub record Says (text : List ℕ) (s : Script) : Type 0 where
  pub script : IsWritable s
  pub head : List (List (List ℕ))
  pub body : List (List (List ℕ))
  pub lines_are : words_of_lines text ≡ head ++ body
  pub head_reads : ReadsLines head (head_parts s)
  pub body_says : SaysLines (frame_of_script s) body s.lines
