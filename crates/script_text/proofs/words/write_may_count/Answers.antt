use Rattle.text_lines.specs.Parts.{Form}
use Rattle.script_text.proofs.PrintedParts.{may_none, may_some}
use Rattle.script_text.proofs.words.write_may_count.Goals as goal

pub returns-then-number-eq0 : goal.returns-then-number-eq0
returns-then-number-eq0 c = may_none c.args.out.now c.args.keyword Form.Count c.args.most c.args.number c.if-number-eq0.true

pub returns : goal.returns
returns c = may_some c.args.keyword Form.Count c.args.most c.args.number c.if-number-eq0.false c.in_ok-write_named_count.ensures
