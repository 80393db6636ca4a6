-- Numbers of few digits.
use Rattle.std.proofs.{Common.ℕ, Common.◌*◌, Common.◌^◌, Common.◌<◌, Common.arith, Math.Nat.pow-le-pow_right}

-- so few digits write a number of 64 bits
pub small : (i n : ℕ) → i < 18 → n < 10 ^ i → 10 * n < 10 ^ 18
small i n few below =
    let most = pow-le-pow_right {n = 10} (omega arith) {i = i} {j = 17} (omega (arith, few)) in
    omega (arith, below, most)
