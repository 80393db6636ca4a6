use Rattle.extent_list.proofs.Shares.{NoneBelow}
use Rattle.extent_list.proofs.tag_rules.has_shareable.Given as goal

abbrev pub invariant-loop-number : goal.invariant-loop-number
invariant-loop-number l = NoneBelow l.config l.number
