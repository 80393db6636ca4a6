use Rattle.std.proofs.Common.{ap, arith, ◌∙◌}
use Rattle.text_lines.{specs.Numbers.at_less, specs.Numbers.digits_said, proofs.LimitLaws.less_limited}
use Rattle.text_lines.proofs.numbers.decimal_of.Goals as goal

pub returns : goal.returns
returns c = c.below_limit.ensures ∙ ap (at_less c.args.limit) c.digits_said.ensures ∙ less_limited c.args.limit (digits_said 10 c.args.digits.now) (omega arith)
