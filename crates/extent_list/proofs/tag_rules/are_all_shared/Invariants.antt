use Rattle.extent_list.proofs.Shares.{SharedSoFar}
use Rattle.extent_list.proofs.tag_rules.are_all_shared.Given as goal

abbrev pub invariant-loop-i : goal.invariant-loop-i
invariant-loop-i l = SharedSoFar l.config l.host l.owners l.list l.i
