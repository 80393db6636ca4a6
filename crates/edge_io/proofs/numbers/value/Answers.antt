use Rattle.std.proofs.Common.{◌<◌, arith}
use Rattle.edge_io.proofs.Digits.{small}
use Rattle.edge_io.proofs.numbers.value.Goals as goal

pub overflow_mul-number : goal.overflow_mul-number
overflow_mul-number c =
    let few : c.loop-i.i < 18 = omega (arith, c.loop-i-test.true, c.loop-i.auto.i-end, c.requires.few) in
    let most = small c.loop-i.i c.loop-i.number few c.loop-i.invariant.below in
    omega (arith, most)

pub overflow_add-number : goal.overflow_add-number
overflow_add-number c =
    let few : c.loop-i.i < 18 = omega (arith, c.loop-i-test.true, c.loop-i.auto.i-end, c.requires.few) in
    let most = small c.loop-i.i c.loop-i.number few c.loop-i.invariant.below in
    let byte = c.type_inv.digits c.loop-i.i in
    omega (arith, most, byte, c.from.ensures)
