use Rattle.std.proofs.Common.{◌≡◌, ◌∙◌, Some, ap, arith, subst, sym, take, get_or}
use Rattle.offer_core.proofs.Parts.{IsAt, at_is, at_more}
use Rattle.offer_core.proofs.offers.part_at.Goals as goal

pub loop-i-preserved : goal.loop-i-preserved
loop-i-preserved c = at_more c.args.counts.now c.args.extents.now c.loop-i.i c.loop-i.from (omega (arith, c.loop-i-test.true, c.requires.index)) c.loop-i.invariant

pub returns : goal.returns
returns c =
    let end : c.loop-i.i ≡ c.args.index = omega (arith, c.loop-i-test.false, c.loop-i.auto.i-end) in
    at_is c.args.counts.now c.args.extents.now c.args.index c.loop-i.from c.requires.index (subst (λ i. IsAt c.args.counts.now c.args.extents.now i c.loop-i.from) end c.loop-i.invariant)
    ∙ ap (λ xs. Some (take (get_or c.args.counts.now c.args.index 0) xs)) (sym c.split_at.ensures.back)
    ∙ ap Some (sym c.split_at-2.ensures.front)
