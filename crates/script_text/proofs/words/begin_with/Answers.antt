use Rattle.std.proofs.Common.{subst, sym}
use Rattle.text_lines.specs.Characters.{IsTextWord}
use Rattle.script_text.proofs.PrintLaws.{keyword_word}
use Rattle.script_text.proofs.words.begin_with.Goals as goal

pub begin_fixed-requires : goal.begin_fixed-requires
begin_fixed-requires c = subst IsTextWord (sym c.text.ensures) (keyword_word c.args.keyword)

pub returns : goal.returns
returns c = rw c.text.ensures at c.begin_fixed.ensures
