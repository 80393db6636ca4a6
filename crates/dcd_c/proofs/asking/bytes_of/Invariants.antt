use Rattle.std.{proofs.Common.◌≡◌, proofs.Common.◌^◌, proofs.Common.◌%◌, proofs.Common.take, specs.Prelude.sum_by}
use Rattle.dcd_c.proofs.asking.bytes_of.Given as goal

abbrev pub invariant-loop-i : goal.invariant-loop-i
invariant-loop-i l = l.bytes ≡ sum_by (λ x. x.length) (take l.i l.extents) % 2 ^ 64
