-- What printing the words of a line appends.
use Rattle.std.specs.Prelude.{◌≡◌, ℕ, ◌<◌, ◌&&◌, ◌==◌, nat_lt, Bool, List, [], ◌∷◌, ◌++◌, map}
use Rattle.std.specs.List.{AllByRecursion, flat_map}
use Rattle.dcd_base.specs.declared.steps.Actor.{Actor}
use Rattle.cci_codec.specs.declared.messages.Request.{Request}
use Rattle.journal_core.specs.declared.acts.Act.{Act}
use Rattle.text_lines.specs.{Characters.IsTextWord, Layouts.SaysAct, Layouts.SaysLine, Layouts.act_parts, Layouts.line_parts}
use Rattle.text_lines.specs.{Parts.AllSay, Parts.Part, Parts.ReadsPart, Parts.ReadsParts, Parts.part_words, Parts.parts_words, Texts.IsWordLine, Words.line_text, Words.spaced}
use Rattle.text_lines.specs.{declared.actors.Frame.Frame, script_codec.specs.declared.script_line.Line.Line}

-- The first word of a line was put at the end, and says that part.
pub record StartsLine (old new : List ℕ) (part : Part) : Type 0 where
  pub word : List ℕ
  pub words_are : part_words part ≡ word ∷ []
  pub is : new ≡ old ++ word
  pub reads : ReadsPart (word ∷ []) part
  pub each : IsTextWord word

-- Further words of a line were put at the end, each with a space before it, and say these parts.
pub record AddsParts (old new : List ℕ) (parts : List Part) : Type 0 where
  pub is : new ≡ old ++ flat_map spaced (parts_words parts)
  pub reads : ReadsParts (parts_words parts) parts
  pub each : AllByRecursion IsTextWord (parts_words parts)

-- A further word was put at the end for each item, and says it.
pub record AddsItems {X : Type 0} (Says : X → List ℕ → Type 0) (text : X → List ℕ) (xs : List X) (old new : List ℕ) : Type 0 where
  pub is : new ≡ old ++ flat_map spaced (map text xs)
  pub says : AllSay Says xs (map text xs)
  pub each : AllByRecursion IsTextWord (map text xs)

-- A line was put at the end, and says these parts.
pub record AddsLine (old new : List ℕ) (parts : List Part) : Type 0 where
  pub is : new ≡ old ++ line_text (parts_words parts)
  pub reads : ReadsParts (parts_words parts) parts
  pub words : IsWordLine (parts_words parts)

-- whether a word of a line says the actor in that lane; version 1 has lane 0 alone
abbrev pub has_word : Frame → Actor → ℕ → Bool
has_word frame (Actor.Host host) lane = nat_lt host frame.hosts && nat_lt lane frame.lanes
has_word frame Actor.Manager lane = lane == 0
has_word frame Actor.Sanitizer lane = Bool.false

-- The numbers of the host and of the lane have eight bits.
abbrev pub IsSmall : Actor → ℕ → Type 0
IsSmall (Actor.Host host) lane = (host < 256) × (lane < 256)
IsSmall Actor.Manager lane = lane < 256
IsSmall Actor.Sanitizer lane = lane < 256

-- What an actor does was put at the end, as the words of a line that say it.
pub record PrintsAct (frame : Frame) (actor : Actor) (lane : ℕ) (act : Act) (old new : List ℕ) : Type 0 where
  pub is : new ≡ old ++ line_text (parts_words (act_parts frame actor lane act))
  pub says : SaysAct frame actor lane act (parts_words (act_parts frame actor lane act))
  pub words : IsWordLine (parts_words (act_parts frame actor lane act))

-- the words of a line as it is printed
abbrev pub printed_words : Frame → Line → List (List ℕ)
printed_words frame line = parts_words (line_parts frame line)

-- A line of a script was put at the end, as words that say it.
pub record PrintsLine (frame : Frame) (line : Line) (old new : List ℕ) : Type 0 where
  pub is : new ≡ old ++ line_text (printed_words frame line)
  pub says : SaysLine frame line (printed_words frame line)
  pub words : IsWordLine (printed_words frame line)

-- A message of a host was put at the end, whichever host it is.
abbrev pub PrintsHostCommand : Frame → Actor → ℕ → Request → List ℕ → List ℕ → Type 0
PrintsHostCommand frame (Actor.Host host) lane message old new = PrintsAct frame (Actor.Host host) lane (Act.Command message) old new
PrintsHostCommand frame Actor.Manager lane message old new = Unit {0}
PrintsHostCommand frame Actor.Sanitizer lane message old new = Unit {0}

-- A message of the manager was put at the end.
abbrev pub PrintsManagerCommand : Frame → Actor → ℕ → Request → List ℕ → List ℕ → Type 0
PrintsManagerCommand frame (Actor.Host host) lane message old new = Unit {0}
PrintsManagerCommand frame Actor.Manager lane message old new = PrintsAct frame Actor.Manager lane (Act.Command message) old new
PrintsManagerCommand frame Actor.Sanitizer lane message old new = Unit {0}
