-- A number that was read in 64 bits, and then limited further.
use Rattle.std.proofs.Common.{◌≡◌, ℕ, ◌-◌, ◌*◌, ◌^◌, ◌<◌, ◌≤◌, nat_le, nat_lt, Option, Some, None, refl, false, arith, inl, inr}
use Rattle.std.{specs.Option.option_map, proofs.Math.Nat.le-mul_of_pos_right, proofs.lemmas.Bool.cases_Bool, proofs.lemmas.Bool.leb-false, proofs.lemmas.Bool.le-ltb, proofs.lemmas.Bool.lt-leb}
use Rattle.text_lines.specs.Numbers.{at_less, at_most, in_unit, limited, limited_64, under}

pub unit_limited : (unit : ℕ) (read : Option ℕ) → 0 < unit → in_unit unit (limited_64 read) ≡ limited_64 (option_map (λ n. n * unit) read)
unit_limited unit None some = refl
unit_limited unit (Some n) some = elim (cases_Bool (nat_le n (2 ^ 64 - 1))) [
  | inl e ↦ rw e refl
  | inr e ↦
      let large = leb-false n (2 ^ 64 - 1) e in
      let more : nat_le (n * unit) (2 ^ 64 - 1) ≡ false = lt-leb (n * unit) (2 ^ 64 - 1) (omega (arith, large, le-mul_of_pos_right n some)) in
      rw (e, more) refl
]

pub most_limited : (most : ℕ) (read : Option ℕ) → most ≤ 2 ^ 64 - 1 → at_most most (limited_64 read) ≡ limited most read
most_limited most None short = refl
most_limited most (Some n) short = elim (cases_Bool (nat_le n (2 ^ 64 - 1))) [
  | inl e ↦ rw e refl
  | inr e ↦
      let large = leb-false n (2 ^ 64 - 1) e in
      let more : nat_le n most ≡ false = lt-leb n most (omega (arith, large, short)) in
      rw (e, more) refl
]

pub less_limited : (limit : ℕ) (read : Option ℕ) → limit ≤ 2 ^ 64 - 1 → at_less limit (limited_64 read) ≡ under limit read
less_limited limit None short = refl
less_limited limit (Some n) short = elim (cases_Bool (nat_le n (2 ^ 64 - 1))) [
  | inl e ↦ rw e refl
  | inr e ↦
      let large = leb-false n (2 ^ 64 - 1) e in
      let more : nat_lt n limit ≡ false = le-ltb n limit (omega (arith, large, short)) in
      rw (e, more) refl
]
