use Rattle.std.proofs.Common.{ap, ◌∙◌}
use Rattle.text_lines.{specs.Numbers.in_unit, specs.Numbers.limited_64, specs.Numbers.prefixed_said, specs.Numbers.without_last, proofs.LimitLaws.unit_limited}
use Rattle.text_lines.proofs.numbers.with_unit.Goals as goal

pub returns : goal.returns
returns c =
    c.scaled.ensures ∙ ap (in_unit c.args.unit) (c.prefixed.ensures ∙ ap (λ word. limited_64 (prefixed_said word)) c.front.ensures)
    ∙ unit_limited c.args.unit (prefixed_said (without_last c.args.word.now)) c.requires.positive
