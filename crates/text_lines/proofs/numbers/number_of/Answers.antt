use Rattle.std.proofs.Common.{ap, arith, ◌∙◌}
use Rattle.text_lines.{specs.Numbers.at_most, specs.Numbers.number_said, proofs.LimitLaws.most_limited}
use Rattle.text_lines.proofs.numbers.number_of.Goals as goal

pub returns : goal.returns
returns c = c.limited_to.ensures ∙ ap (at_most c.args.most) c.said.ensures ∙ most_limited c.args.most (number_said c.args.word.now) (omega arith)
