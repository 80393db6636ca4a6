-- Which script a text says, or its first fault.
use Rattle.std.specs.Prelude.{◌≡◌, ◌≢◌, ℕ, ◌-◌, ◌==◌, nat_lt, Bool, List, [], ◌∷◌, ◌++◌, length, Option, Some, None, Result, Ok, Err, if◌then◌else◌}
use Rattle.region_config.specs.{Configurations.Configuration, Setups.config_fault, declared.faults.ConfigFault.ConfigFault, declared.region_spec.RegionSpec.RegionSpec}
use Rattle.text_lines.specs.{Chains.◌>>!◌ as ◌>>=◌, Fields.begins, Fields.refused, Lines.opening_ahead, Lines.rest_ahead, Unread.UnreadWords, Unread.Ahead, Unread.all_of, declared.actors.Frame.Frame}
use Rattle.text_lines.specs.declared.{faults.Cause.Cause, faults.TextFault.TextFault, faults.Wanted.Wanted, keywords.Keyword.Keyword}
use Rattle.text_lines.specs.script_codec.specs.{Reading.most_bytes, Reading.most_lines, Writing.script_bytes, declared.heads.Head.Head, declared.script_line.Line.Line, declared.scripts.Script.Script}
use Rattle.script_text.specs.Heads.{start_ahead, regions_at, host_lines_at}

-- The call answers what the definition reads, and leaves these lines. Memory may be wanting at any time.
abbrev pub GivesLines : {A B : Type 0} → (A → B) → Result A TextFault → List UnreadWords → Result (B × List UnreadWords) TextFault → Type 0
GivesLines view (Ok x) left read = read ≡ Ok (view x, left)
GivesLines view (Err fault) left read = fault ≢ TextFault.NoMemory → read ≡ Err fault

-- What taking a line that begins with a keyword answers: that line, or that the next one is none.
abbrev pub first_begins : Keyword → List UnreadWords → Bool
first_begins keyword [] = Bool.false
first_begins keyword (u ∷ us) = begins keyword u

abbrev pub TakesLineWith : Keyword → Ahead → Ahead → Option UnreadWords → Type 0
TakesLineWith keyword old new (Some u) = (old.lines ≡ u ∷ new.lines) × (begins keyword u ≡ Bool.true) × (new.end ≡ old.end)
TakesLineWith keyword old new None = (first_begins keyword old.lines ≡ Bool.false) × (new ≡ old)

-- lines of the script before those that are still to come
abbrev pub lines_behind : List Line → Result (List Line) TextFault → Result (List Line) TextFault
lines_behind before (Ok lines) = Ok (before ++ lines)
lines_behind before (Err fault) = Err fault

-- what is wrong before the next of these lines, or at the end, where the line behind the last has this number
abbrev pub refused_before : ℕ → List UnreadWords → Cause → TextFault
refused_before end [] cause = TextFault.Refused end 1 cause
refused_before end (u ∷ us) cause = refused u cause

-- the first line
abbrev pub started : ℕ → List UnreadWords → Result ((ℕ × ℕ) × List UnreadWords) TextFault
started end [] = Err (refused_before end [] (Cause.Wanted (Wanted.Keyword Keyword.Script)))
started end (u ∷ us) = start_ahead u >>= (λ start. Ok (start, us))

-- at least one of these was read
abbrev pub some_read : ℕ → List UnreadWords → Keyword → ℕ → Result (Unit {0}) TextFault
some_read end lines keyword count = if count == 0 then Err (refused_before end lines (Cause.Wanted (Wanted.Keyword keyword))) else Ok tt

abbrev pub frame_of : ℕ → ℕ → ℕ → Frame
frame_of version hosts lanes = record { version = version; hosts = hosts; lanes = lanes }

-- the first word of the next line
abbrev pub opening_read : Frame → List UnreadWords → Result (Unit {0}) TextFault
opening_read frame [] = Ok tt
opening_read frame (u ∷ us) = opening_ahead frame u >>= (λ opening. Ok tt)

-- the configuration, unless it has a fault
abbrev pub config_or_fault : ℕ → List UnreadWords → Configuration → Option ConfigFault → Result Configuration TextFault
config_or_fault end lines config None = Ok config
config_or_fault end lines config (Some fault) = Err (refused_before end lines (Cause.BadConfig fault))

abbrev pub config_checked : ℕ → List UnreadWords → Configuration → Result Configuration TextFault
config_checked end lines config = config_or_fault end lines config (config_fault config)

-- at least one region
unfoldable pub some_regions_ahead : ℕ → List UnreadWords → Result (List RegionSpec × List UnreadWords) TextFault
some_regions_ahead end lines = do
  regions ← regions_at 0 lines
  some ← some_read end regions.1 Keyword.Region (length regions.0)
  Ok regions

-- at least one host
unfoldable pub some_hosts_ahead : ℕ → ℕ → List UnreadWords → Result ((ℕ × List ℕ) × List UnreadWords) TextFault
some_hosts_ahead end regions lines = do
  hosts ← host_lines_at regions 0 lines
  some ← some_read end hosts.1 Keyword.Host hosts.0.0
  Ok hosts

-- the configuration of what was read, and the lines behind it
unfoldable pub made_config : ℕ → ℕ × ℕ → List RegionSpec → (ℕ × List ℕ) × List UnreadWords → Result (Head × List UnreadWords) TextFault
made_config end start regions hosts = do
  opened ← opening_read (frame_of start.0 hosts.0.0 start.1) hosts.1
  config ← config_checked end hosts.1 (record { hosts = hosts.0.0; regions = regions; bases = hosts.0.1 })
  Ok (record { version = start.0; lanes = start.1; config = config }, hosts.1)

-- the regions and the hosts, and the lines behind them
unfoldable pub config_ahead : ℕ → ℕ × ℕ → List UnreadWords → Result (Head × List UnreadWords) TextFault
config_ahead end start lines = do
  regions ← some_regions_ahead end lines
  hosts ← some_hosts_ahead end (length regions.0) regions.1
  made_config end start regions.0 hosts

-- the head, and the lines behind it
unfoldable pub head_ahead : ℕ → List UnreadWords → Result (Head × List UnreadWords) TextFault
head_ahead end lines = do
  start ← started end lines
  config_ahead end start.0 start.1

-- one more line may come
abbrev pub room_for_line : ℕ → ℕ → Result (Unit {0}) TextFault
room_for_line left line = if left == 0 then Err (TextFault.Refused line 1 Cause.TooManyLines) else Ok tt

-- the lines of the script, of which so many may come
unfoldable pub lines_at : ℕ → Frame → List UnreadWords → Result (List Line) TextFault
lines_at left frame [] = Ok []
lines_at left frame (u ∷ us) = do
  opening ← opening_ahead frame u
  room ← room_for_line left u.line
  line ← rest_ahead frame opening.0 opening.1
  lines_behind (line ∷ []) (lines_at (left - 1) frame us)

abbrev pub frame_of_head : Head → Frame
frame_of_head head = frame_of head.version head.config.hosts head.lanes

abbrev pub script_with : Head → List Line → Script
script_with head lines = record { version = head.version; lanes = head.lanes; config = head.config; lines = lines }

-- the script, where its bytes are few enough
abbrev pub short_script : ℕ → Script → Result Script TextFault
short_script end script = if nat_lt most_bytes (length (script_bytes script)) then Err (TextFault.Refused end 1 Cause.TooLong) else Ok script

unfoldable pub script_of_lines : ℕ → List UnreadWords → Result Script TextFault
script_of_lines end lines = do
  head ← head_ahead end lines
  rest ← lines_at most_lines (frame_of_head head.0) head.1
  short_script end (script_with head.0 rest)

-- The script that a text says, or else its first fault.
unfoldable pub script_said : List ℕ → Result Script TextFault
script_said text = script_of_lines (all_of text).end (all_of text).lines

-- What parsing answers: the script that the text says, or its first fault. Memory may be wanting at any time.
abbrev pub IsParsed : List ℕ → Result Script TextFault → Type 0
IsParsed text (Ok script) = script_said text ≡ Ok script
IsParsed text (Err fault) = fault ≢ TextFault.NoMemory → script_said text ≡ Err fault

-- What parsing answers where the text says this script: the script, if there is memory.
abbrev pub IsParsedAs : Script → Result Script TextFault → Type 0
IsParsedAs script (Ok found) = found ≡ script
IsParsedAs script (Err fault) = fault ≡ TextFault.NoMemory
