use Rattle.std.proofs.Common.{arith, rules}
use Rattle.extent_list.proofs.Shares.{none_at_all, none_more}
use Rattle.extent_list.proofs.tag_rules.has_shareable.Goals as goal

pub loop-number-preserved : goal.loop-number-preserved
loop-number-preserved c = none_more c.args.config.now c.loop-number.number c.loop-number.invariant (search rules)

pub returns : goal.returns
returns c = λ no. none_at_all c.args.config.now c.loop-number.number (omega (arith, c.regions-number-end.ensures.value, c.loop-number-test.false)) c.loop-number.invariant
