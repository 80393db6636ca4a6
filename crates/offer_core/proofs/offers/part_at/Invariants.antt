use Rattle.offer_core.proofs.Parts.{IsAt}
use Rattle.offer_core.proofs.offers.part_at.Given as goal

abbrev pub invariant-loop-i : goal.invariant-loop-i
invariant-loop-i l = IsAt l.counts l.extents l.i l.from
