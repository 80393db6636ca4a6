-- The one text of a script, and what printing appends.
use Rattle.std.specs.{Prelude.◌≡◌, Prelude.ℕ, Prelude.List, Prelude.◌++◌, Prelude.map, List.AllByRecursion, List.flat_map}
use Rattle.text_lines.specs.{Layouts.line_parts, Parts.Part, Parts.parts_words, Texts.IsWordLine, Words.line_text, declared.actors.Frame.Frame, script_codec.specs.declared.script_line.Line.Line}
use Rattle.text_lines.specs.script_codec.specs.declared.scripts.Script.{Script}
use Rattle.script_text.specs.{LinePrinting.printed_words, Layouts.ReadsLines, Layouts.SaysLines, Layouts.frame_of_script, Layouts.head_parts}

-- the parts of each line of the text
abbrev pub text_parts : Script → List (List Part)
text_parts s = head_parts s ++ map (line_parts (frame_of_script s)) s.lines

-- a line, with one space between its words
abbrev pub printed_line : List Part → List ℕ
printed_line parts = line_text (parts_words parts)

-- the one text of a script
unfoldable pub script_text : Script → List ℕ
script_text s = flat_map printed_line (text_parts s)

-- Lines of the head were put at the end, and say these parts.
pub record AddsLines (old new : List ℕ) (lines : List (List Part)) : Type 0 where
  pub is : new ≡ old ++ flat_map printed_line lines
  pub reads : ReadsLines (map parts_words lines) lines
  pub each : AllByRecursion IsWordLine (map parts_words lines)

-- the text of a line of a script
abbrev pub printed_script_line : Frame → Line → List ℕ
printed_script_line frame line = line_text (printed_words frame line)

-- Lines of a script were put at the end, and say it.
pub record AddsScriptLines (frame : Frame) (old new : List ℕ) (lines : List Line) : Type 0 where
  pub is : new ≡ old ++ flat_map (printed_script_line frame) lines
  pub says : SaysLines frame (map (printed_words frame) lines) lines
  pub each : AllByRecursion IsWordLine (map (printed_words frame) lines)
