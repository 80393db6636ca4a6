use Rattle.std.proofs.Common.{◌∙◌, arith, refl}
use Rattle.dcd_base.proofs.Widths.{u24_parts}
use Rattle.cci_codec.proofs.headers.put_head.Goals as goal

pub returns : goal.returns
returns c =
    c.put_zeros-2.ensures.put
    ∙ rw (c.put_u16-2.ensures.put, c.put_u24.ensures.put, u24_parts c.args.size (omega (arith, c.requires.fits)), c.put_u16.ensures.put, c.put_zeros.ensures.put, c.put_u8.ensures.put, c.put_byte.ensures.put) refl
