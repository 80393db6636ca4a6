use Rattle.std.proofs.Common.{◌≡◌, length}
use Rattle.text_lines.{specs.Pairs.pairs_said, proofs.PairLaws.pairs_behind}
use Rattle.text_lines.proofs.pairs.write_pairs_of.Given as goal

abbrev pub invariant-loop-rest : goal.invariant-loop-rest
invariant-loop-rest l = pairs_behind l.out (pairs_said l.rest) ≡ pairs_behind l.fn.out (pairs_said l.word)

abbrev pub decreases-loop-rest : goal.decreases-loop-rest
decreases-loop-rest l = length l.rest
