use Rattle.text_lines.specs.Parts.{Form}
use Rattle.script_text.proofs.PrintedParts.{number_adds}
use Rattle.script_text.proofs.words.write_count.Goals as goal

pub returns : goal.returns
returns c = number_adds Form.Count c.args.most c.args.number c.requires c.law_decimal.ensures.reads c.law_decimal.ensures.word c.in_ok-push.ensures.pushed c.in_ok-write_decimal.ensures
