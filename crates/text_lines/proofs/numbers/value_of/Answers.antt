use Rattle.std.proofs.Common.{sym, ◌∙◌}
use Rattle.text_lines.proofs.NumberLaws.{ends, ends_badly, goes_on}
use Rattle.text_lines.proofs.numbers.value_of.Goals as goal

pub returns-in_default-clause-value : goal.returns-in_default-clause-value
returns-in_default-clause-value c = ends_badly c.args.base c.loop-c.value c.loop-c.c-index c.args.digits.now _ c.loop-c-test.true (sym c.digit_in.ensures.value ∙ c.in_default.is) c.loop-c.invariant.value

pub loop-c-preserved : goal.loop-c-preserved
loop-c-preserved c = record {
  small = c.grown-value.ensures.small;
  value = goes_on c.args.base c.loop-c.value c.grown-value.result c.loop-c.c-index c.in-Some.digit c.args.digits.now _ c.requires.low c.loop-c-test.true (sym c.digit_in.ensures.value ∙ c.in-Some.is) c.grown-value.ensures.value c.loop-c.invariant.value;
}

pub returns-clause-value : goal.returns-clause-value
returns-clause-value c = ends c.args.base c.loop-c.value c.loop-c.c-index c.args.digits.now _ c.loop-c.invariant.small c.loop-c-test.false c.loop-c.invariant.value
