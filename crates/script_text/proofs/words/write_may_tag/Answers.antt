use Rattle.std.proofs.Common.{sym, ◌∙◌}
use Rattle.script_text.proofs.{PrintLaws.adds_then, PrintedParts.may_tag_none, PrintedParts.may_tag_some}
use Rattle.script_text.proofs.words.write_may_tag.Goals as goal

pub returns-then-is_no_tag : goal.returns-then-is_no_tag
returns-then-is_no_tag c = may_tag_none c.args.out.now c.args.tag.now (sym c.is_no_tag.ensures ∙ c.if-is_no_tag.true)

pub returns : goal.returns
returns c = may_tag_some c.args.tag.now (sym c.is_no_tag.ensures ∙ c.if-is_no_tag.false) (adds_then c.in_ok-write_key.ensures c.in_ok-write_tag_word.ensures)
