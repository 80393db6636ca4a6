use Rattle.std.proofs.Common.{◌≡◌, length}
use Rattle.text_lines.specs.Sizes.{comma_pieces, sizes_from}
use Rattle.text_lines.proofs.sizes.sizes_of.Given as goal

abbrev pub invariant-loop-size : goal.invariant-loop-size
invariant-loop-size l = sizes_from l.mask (comma_pieces l.rest) ≡ sizes_from 0 (comma_pieces l.word)

abbrev pub decreases-loop-size : goal.decreases-loop-size
decreases-loop-size l = length l.rest
