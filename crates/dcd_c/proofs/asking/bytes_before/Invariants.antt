use Rattle.std.{proofs.Common.◌≡◌, proofs.Common.◌^◌, proofs.Common.◌%◌, proofs.Common.take, specs.Prelude.sum_by}
use Rattle.dcd_c.proofs.asking.bytes_before.Given as goal

abbrev pub invariant-loop-i : goal.invariant-loop-i
invariant-loop-i l = l.bytes ≡ sum_by (λ r. r.length) (take l.i (take l.region l.config.regions)) % 2 ^ 64
