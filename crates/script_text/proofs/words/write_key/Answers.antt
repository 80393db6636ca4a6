use Rattle.std.proofs.Common.{subst, sym}
use Rattle.text_lines.specs.Characters.{IsTextWord}
use Rattle.script_text.proofs.PrintLaws.{keyword_word}
use Rattle.script_text.proofs.words.write_key.Goals as goal

pub write_fixed-requires : goal.write_fixed-requires
write_fixed-requires c = subst IsTextWord (sym c.text.ensures) (keyword_word c.args.keyword)

pub returns : goal.returns
returns c = rw c.text.ensures at c.write_fixed.ensures
