use Rattle.std.proofs.{Common.arith, Common.◌∙◌, Common.sym, lemmas.Bool.eqb-false}
use Rattle.text_lines.proofs.WordLaws.{ended_return, ended_other}
use Rattle.text_lines.proofs.line_words.without_return.Goals as goal

pub returns-then-line-ne13-clause-value : goal.returns-then-line-ne13-clause-value
returns-then-line-ne13-clause-value c = ended_other c.args.line.now c.if-line-ne13.true

pub returns-clause-value : goal.returns-clause-value
returns-clause-value c = c.split_at.ensures.front ∙ ended_return c.args.line.now (omega (arith, eqb-false _ 0 (sym c.is_empty.ensures ∙ c.if-is_empty.false))) c.if-line-ne13.false
