use Rattle.script_text.proofs.PrintedParts.{tag_adds}
use Rattle.script_text.proofs.words.write_tag_word.Goals as goal

pub returns : goal.returns
returns c = tag_adds c.args.tag.now c.law_tag.ensures.reads c.law_tag.ensures.word c.in_ok-push.ensures.pushed c.in_ok-write_tag.ensures
