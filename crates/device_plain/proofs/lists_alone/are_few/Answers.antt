use Rattle.std.proofs.Common.{ap, arith, length}
use Rattle.extent_list.specs.ExtentLists.{count_in}
use Rattle.device_plain.proofs.lists_alone.are_few.Goals as goal

pub returns : goal.returns
returns c = λ few.
    omega (arith, c.fits.ensures few, c.len.ensures, ap length c.accepted.ensures, c.extents.ensures, ap count_in c.offers.ensures.offers)
