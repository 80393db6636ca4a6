use Rattle.std.proofs.Common.{refl}
use Rattle.text_lines.specs.Parts.{Part}
use Rattle.script_text.proofs.PrintLaws.{adds_word}
use Rattle.script_text.proofs.words.write_fixed.Goals as goal

pub returns : goal.returns
returns c = adds_word (Part.Fixed c.args.word.now) c.args.word.now refl refl c.requires c.in_ok-write_word.ensures
