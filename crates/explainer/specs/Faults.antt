-- The line that says why a text is refused.
use Rattle.std.specs.Prelude.{ℕ, List, [], ◌∷◌, ◌++◌, codes, decimal}
use Rattle.cci_codec.specs.declared.faults.MessageFault.{MessageFault}
use Rattle.region_config.specs.declared.faults.ConfigFault.{ConfigFault}
use Rattle.script_text.specs.text_lines.specs.{Keywords.keyword_text, declared.faults.Cause.Cause, declared.faults.Wanted.Wanted}

-- what the grammar has at a place
abbrev pub wanted_text : Wanted → List ℕ
wanted_text (Wanted.Keyword keyword) = codes "`" ++ keyword_text keyword ++ codes "`"
wanted_text Wanted.Version = codes "version 1 or 2"
wanted_text Wanted.Lanes = codes "1 to 4 lanes"
wanted_text Wanted.Number = codes "a number"
wanted_text Wanted.Decode = codes "a multiple of 256M"
wanted_text Wanted.Sizes = codes "powers of 2 with commas between them"
wanted_text Wanted.Extent = codes "START+LENGTH"
wanted_text Wanted.Tag = codes "a tag of 32 hexadecimal digits"
wanted_text Wanted.Host = codes "`h` and the number of a host"
wanted_text Wanted.Actor = codes "a host or `fm`"
wanted_text Wanted.Line = codes "`mark`, `scrub`, `command`, a host or `fm`"
wanted_text Wanted.HostCommand = codes "`load`, `store` or a command of a host"
wanted_text Wanted.ManagerCommand = codes "a command of the Fabric Manager"
wanted_text Wanted.AddPolicy = codes "a policy of an add"
wanted_text Wanted.ReleasePolicy = codes "a policy of a release"
wanted_text Wanted.Bytes = codes "pairs of hexadecimal digits"
wanted_text Wanted.End = codes "the end of the line"

-- words and a number behind them
abbrev pub with_number : List ℕ → ℕ → List ℕ
with_number text number = text ++ decimal number

-- a region, and a region of a host
abbrev pub of_region : ℕ → List ℕ
of_region region = with_number (codes " of region ") region

abbrev pub of_seat : ℕ → ℕ → List ℕ
of_seat host region = codes " of host " ++ decimal host ++ codes ", region " ++ decimal region

-- why a configuration is refused
abbrev pub config_text : ConfigFault → List ℕ
config_text ConfigFault.Count = codes "too many hosts or regions"
config_text (ConfigFault.Base host region) = codes "the base" ++ of_seat host region
config_text (ConfigFault.BlockSize region) = codes "the block sizes" ++ of_region region
config_text (ConfigFault.Length region) = codes "the length" ++ of_region region
config_text (ConfigFault.Overlap host region) = codes "the base below the end of the region before it" ++ of_seat host region
config_text (ConfigFault.TooManyGranules count) = codes "granules above 4096, " ++ decimal count
config_text ConfigFault.NoMemory = codes "memory"

-- why bytes are no request
abbrev pub message_text : MessageFault → List ℕ
message_text (MessageFault.Short count) = codes "a message of fewer than 12 bytes, " ++ decimal count
message_text (MessageFault.NotRequest category) = codes "no request but category " ++ decimal category
message_text (MessageFault.LengthDiffers field rest) = with_number (codes "a header for ") field ++ with_number (codes " bytes of payload before ") rest
message_text MessageFault.NoMemory = codes "memory"

-- what is wrong with a word
abbrev pub cause_text : Cause → List ℕ
cause_text (Cause.Wanted wanted) = codes "expected " ++ wanted_text wanted
cause_text (Cause.OutOfForm wanted) = codes "out of form for " ++ wanted_text wanted
cause_text (Cause.TooLarge most) = codes "a number above " ++ decimal most
cause_text Cause.NoSuchActor = codes "no such host or lane"
cause_text (Cause.OutOfTurn turn) = codes "out of turn, the next number is " ++ decimal turn
cause_text (Cause.BadConfig fault) = codes "the configuration is refused for " ++ config_text fault
cause_text (Cause.BadMessage fault) = message_text fault
cause_text Cause.MessageTooLong = codes "more than a message has room for"
cause_text Cause.TooManyLines = codes "line 65537 of the script"
cause_text Cause.TooLong = codes "a script of more than 16777216 bytes"

-- the line, with its end: the name of the text, the line and the column, as editors read them
unfoldable pub fault_line : List ℕ → ℕ → ℕ → Cause → List ℕ
fault_line name line column cause = name ++ codes ":" ++ decimal line ++ codes ":" ++ decimal column ++ codes ": " ++ cause_text cause ++ 10 ∷ []

-- a frame that ends within its script
unfoldable pub cut_line : ℕ → ℕ → List ℕ
cut_line need have = with_number (codes "frame refused: it needs ") need ++ with_number (codes " bytes and has ") have ++ 10 ∷ []

-- a text that no run of its script prints
unfoldable pub stopped_line : ℕ → List ℕ
stopped_line line = with_number (codes "stopped at line ") line ++ codes ": no run of this script prints it" ++ 10 ∷ []
