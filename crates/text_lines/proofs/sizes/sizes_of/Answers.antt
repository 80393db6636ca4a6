use Rattle.std.proofs.Common.{sym, ◌∙◌}
use Rattle.text_lines.{specs.Sizes.sizes_said, proofs.SizeLaws.mask_fails, proofs.SizeLaws.size_fails, proofs.SizeLaws.size_goes_on, proofs.SizeLaws.sizes_end}
use Rattle.text_lines.proofs.sizes.sizes_of.Goals as goal

pub returns-in_err-size : goal.returns-in_err-size
unfolding sizes_said
returns-in_err-size c = c.from_residual.ensures ∙ size_fails c.loop-size.mask c.loop-size.rest.now c.cut_piece.result.0.now _ _ c.cut_piece.ensures.pieces (sym c.in_err-size.ensures.value) c.loop-size.invariant

pub returns-in_err-mask : goal.returns-in_err-mask
unfolding sizes_said
returns-in_err-mask c = c.from_residual-in_err-mask.ensures ∙ mask_fails c.loop-size.mask c.in_ok-size.size c.loop-size.rest.now c.cut_piece.result.0.now _ _ c.cut_piece.ensures.pieces (sym c.in_ok-size.ensures.value) (sym c.in_err-mask.ensures) c.loop-size.invariant

pub loop-size-preserved : goal.loop-size-preserved
loop-size-preserved c =
    size_goes_on c.loop-size.mask c.in_ok-size.size c.in_ok-mask.mask c.loop-size.rest.now c.cut_piece.result.0.now _ _ (rw c.in-Some.is at c.cut_piece.ensures.pieces) (sym c.in_ok-size.ensures.value) (sym c.in_ok-mask.ensures) c.loop-size.invariant

pub returns-in-None : goal.returns-in-None
unfolding sizes_said
returns-in-None c =
    sizes_end c.in_ok-mask.mask _ (size_goes_on c.loop-size.mask c.in_ok-size.size c.in_ok-mask.mask c.loop-size.rest.now c.cut_piece.result.0.now _ _ (rw c.in-None.is at c.cut_piece.ensures.pieces) (sym c.in_ok-size.ensures.value) (sym c.in_ok-mask.ensures) c.loop-size.invariant)
