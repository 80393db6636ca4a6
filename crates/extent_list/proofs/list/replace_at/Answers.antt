use Rattle.std.proofs.Common.{sym, ◌∙◌}
use Rattle.extent_list.proofs.Cutting.{cut-at, holds_at, in_addresses_at, length-cut}
use Rattle.extent_list.proofs.list.replace_at.Goals as goal

pub upper_piece-upper-requires-clause-begins : goal.upper_piece-upper-requires-clause-begins
upper_piece-upper-requires-clause-begins c = (holds_at _ _ _ _ c.index.result.now c.requires.index c.index.ensures).begins

pub returns-then-len-most-clause-too_many : goal.returns-then-len-most-clause-too_many
returns-then-len-most-clause-too_many c =
    rw (c.count_of.ensures.count, c.count_of-2.ensures.count, c.lower_piece-lower.ensures, c.upper_piece-upper.ensures, c.as_slice.ensures.value)
    (sym (length-cut _ _ _ _ c.index.result.now c.requires.index c.index.ensures))

pub returns-clause-cut : goal.returns-clause-cut
returns-clause-cut c =
    c.append_pieces.ensures.put
    ∙ rw (c.lower_piece-lower.ensures, c.upper_piece-upper.ensures) (sym (cut-at _ _ _ _ c.index.result.now c.requires.index c.index.ensures))

pub upper_piece-upper-requires-clause-ends : goal.upper_piece-upper-requires-clause-ends
upper_piece-upper-requires-clause-ends c = in_addresses_at _ _ _ _ c.index.result.now c.requires.index c.index.ensures c.requires.in_addresses
