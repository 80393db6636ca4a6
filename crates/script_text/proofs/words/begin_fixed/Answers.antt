use Rattle.std.proofs.Common.{refl}
use Rattle.text_lines.specs.Parts.{Part}
use Rattle.script_text.proofs.PrintLaws.{starts_word}
use Rattle.script_text.proofs.words.begin_fixed.Goals as goal

pub returns : goal.returns
returns c = starts_word (Part.Fixed c.args.word.now) c.args.word.now refl refl c.requires c.in_ok-extend_from_slice.ensures.extended
