use Rattle.std.proofs.Common.{sym}
use Rattle.extent_list.proofs.Cutting.{holds_at, in_addresses_at, length-cut}
use Rattle.extent_list.proofs.list.len_cut_at.Goals as goal

pub upper_piece-upper-requires-clause-begins : goal.upper_piece-upper-requires-clause-begins
upper_piece-upper-requires-clause-begins c = (holds_at _ _ _ _ c.index.result.now c.requires.index c.index.ensures).begins

pub upper_piece-upper-requires-clause-ends : goal.upper_piece-upper-requires-clause-ends
upper_piece-upper-requires-clause-ends c = in_addresses_at _ _ _ _ c.index.result.now c.requires.index c.index.ensures c.requires.in_addresses

pub returns-clause-value : goal.returns-clause-value
returns-clause-value c =
    rw (c.count_of.ensures.count, c.count_of-2.ensures.count, c.lower_piece-lower.ensures, c.upper_piece-upper.ensures, c.as_slice.ensures.value)
    (sym (length-cut _ _ _ _ c.index.result.now c.requires.index c.index.ensures))
