-- Bytes of two numbers that are alike, by the bits in which the numbers differ.
use Rattle.std.proofs.Common.{◌≡◌, ℕ, zero, suc, ◌+◌, ◌-◌, ◌*◌, ◌/◌, ◌%◌, ◌^◌, ◌<◌, ◌≤◌, ◌≢◌, get_or, sym, ap, ◌∙◌, inl, inr, arith}
use Rattle.std.proofs.{Math.Nat.div-le_self, lemmas.Bool.cases_lt, lemmas.Nat.mod-pow-add, lemmas.Nat.shr-shr, lemmas.Nat.xor_lt}
use Rattle.std.proofs.lemmas.Nat.Bits.{bit_at-lt, bit_at-suc, bit_at-trailing_zeros, bit_at-zero, bit_at_above, bit_at_lowest, bit_at_xor}
use Rattle.std.specs.Int.{bit_at, trailing_zeros, w64, to_le_bytes, Bits.bit_xor}

-- a byte of a number
byte_at : (n k : ℕ) → k < 8 → get_or (to_le_bytes w64 n) k 0 ≡ n / 2 ^ (8 * k) % 2 ^ 8
byte_at n zero lt = omega arith
byte_at n (suc zero) lt = omega arith
byte_at n (suc (suc zero)) lt = omega arith
byte_at n (suc (suc (suc zero))) lt = omega arith
byte_at n (suc (suc (suc (suc zero)))) lt = omega arith
byte_at n (suc (suc (suc (suc (suc zero))))) lt = omega arith
byte_at n (suc (suc (suc (suc (suc (suc zero)))))) lt = omega arith
byte_at n (suc (suc (suc (suc (suc (suc (suc zero))))))) lt = omega arith
byte_at n (suc (suc (suc (suc (suc (suc (suc (suc k)))))))) lt = absurd (omega arith)

-- numbers whose lowest bits are the same
low_bits : (m a b : ℕ) → ((i : ℕ) → i < m → bit_at a i ≡ bit_at b i) → a % 2 ^ m ≡ b % 2 ^ m
low_bits zero a b same = omega arith
low_bits (suc m) a b same =
    let low : a % 2 ≡ b % 2 = sym (bit_at_lowest a) ∙ same 0 (omega arith) ∙ bit_at_lowest b in
    let rest : a / 2 % 2 ^ m ≡ b / 2 % 2 ^ m = low_bits m (a / 2) (b / 2) (λ i lt. sym (bit_at-suc a i) ∙ same (suc i) (omega arith) ∙ bit_at-suc b i) in
    half_step m a ∙ ap (λ x. x * 2 + a % 2) rest ∙ ap (λ x. (b / 2 % 2 ^ m) * 2 + x) low ∙ sym (half_step m b)
  where
    half_step : (m n : ℕ) → n % 2 ^ suc m ≡ (n / 2 % 2 ^ m) * 2 + n % 2
    half_step m n = let e : suc m ≡ m + 1 = omega arith in ap (λ x. n % 2 ^ x) e ∙ mod-pow-add n m 1

-- a bit of what is left of a number
bit_behind : (n s i : ℕ) → bit_at (n / 2 ^ s) i ≡ bit_at n (s + i)
bit_behind n s i = ap (λ x. x % 2) (shr-shr n s i)

-- a bit in which two numbers do not differ
same_bit : (a b i : ℕ) → bit_at (bit_xor a b) i ≡ 0 → bit_at a i ≡ bit_at b i
same_bit a b i none = omega (arith, bit_at_xor a b i, none, bit_at-lt a i, bit_at-lt b i)

-- numbers that do not differ in so many bits from a byte on have the bytes in them alike
bytes_alike : (a b from t : ℕ) → ((i : ℕ) → i < t → bit_at (bit_xor a b / 2 ^ (8 * from)) i ≡ 0) → (k : ℕ) → from ≤ k → k < from + t / 8 → k < 8 → get_or (to_le_bytes w64 a) k 0 ≡ get_or (to_le_bytes w64 b) k 0
bytes_alike a b from t none k le lt few =
    byte_at a k few ∙ low_bits 8 (a / 2 ^ (8 * k)) (b / 2 ^ (8 * k)) same ∙ sym (byte_at b k few)
  where
    same : (i : ℕ) → i < 8 → bit_at (a / 2 ^ (8 * k)) i ≡ bit_at (b / 2 ^ (8 * k)) i
    same i small =
        let place : 8 * from + (8 * (k - from) + i) ≡ 8 * k + i = omega arith in
        bit_behind a (8 * k) i
        ∙ same_bit a b (8 * k + i) (ap (bit_at (bit_xor a b)) (sym place) ∙ sym (bit_behind (bit_xor a b) (8 * from) (8 * (k - from) + i)) ∙ none (8 * (k - from) + i) (omega arith))
        ∙ sym (bit_behind b (8 * k) i)

-- where numbers differ from a byte on, the lowest bit in which they do is one of their 64
lowest_difference : (a b from : ℕ) → a < 2 ^ 64 → b < 2 ^ 64 → from ≤ 8 → bit_xor a b / 2 ^ (8 * from) ≢ 0 → (8 * from + trailing_zeros w64 (bit_xor a b / 2 ^ (8 * from)) < 64) × ((i : ℕ) → i < trailing_zeros w64 (bit_xor a b / 2 ^ (8 * from)) → bit_at (bit_xor a b / 2 ^ (8 * from)) i ≡ 0)
lowest_difference a b from small small' le some =
    let x = bit_xor a b in
    let fits : x < 2 ^ 64 = xor_lt 64 a b small small' in
    let rest = x / 2 ^ (8 * from) in
    let less : rest ≤ x = div-le_self x (2 ^ (8 * from)) in
    let lowest = bit_at-trailing_zeros w64 rest (omega (arith, some)) (omega (arith, less, fits)) in
    let set : bit_at x (8 * from + trailing_zeros w64 rest) ≡ 1 = sym (bit_behind x (8 * from) (trailing_zeros w64 rest)) ∙ lowest.1 in
    (below x (8 * from + trailing_zeros w64 rest) fits set, lowest.2)
  where
    below : (x i : ℕ) → x < 2 ^ 64 → bit_at x i ≡ 1 → i < 64
    below x i fits set = elim (cases_lt i 64) [
      | inl lt ↦ lt
      | inr le ↦ absurd (omega (arith, set, bit_at_above x 64 i fits le))
    ]

-- ---- what is left of the difference of two numbers, from a byte on

-- from the first one on it is all
pub all_of : (n : ℕ) → n ≡ n / 2 ^ (8 * 0)
all_of n = omega arith

module _ (a b place rest : ℕ) (is : rest ≡ bit_xor a b / 2 ^ (8 * place)) where
  -- behind so many bytes and one more
  pub difference_behind : (d : ℕ) → rest / 2 ^ (8 * d) / 2 ^ 8 ≡ bit_xor a b / 2 ^ (8 * (place + d + 1))
  difference_behind d =
      let sum : 8 * place + 8 * d + 8 ≡ 8 * (place + d + 1) = omega arith in
      ap (λ x. x / 2 ^ (8 * d) / 2 ^ 8) is
      ∙ ap (λ x. x / 2 ^ 8) (shr-shr (bit_xor a b) (8 * place) (8 * d))
      ∙ shr-shr (bit_xor a b) (8 * place + 8 * d) 8
      ∙ ap (λ x. bit_xor a b / 2 ^ x) sum

  -- where it is some, the next byte that differs is one of the eight
  pub next_difference : a < 2 ^ 64 → b < 2 ^ 64 → place ≤ 8 → rest ≢ 0 → (place + trailing_zeros w64 rest / 8 < 8) × ((k : ℕ) → place ≤ k → k < place + trailing_zeros w64 rest / 8 → get_or (to_le_bytes w64 a) k 0 ≡ get_or (to_le_bytes w64 b) k 0)
  next_difference small small' le some =
      let d = lowest_difference a b place small small' le (λ e. some (is ∙ e)) in
      rw is (
        omega (arith, d.0),
        λ k from below. bytes_alike a b place _ d.1 k from below (omega (arith, below, d.0)),
      )

  -- where it is none, all bytes are alike
  pub no_difference : rest ≡ 0 → (k : ℕ) → place ≤ k → k < 8 → get_or (to_le_bytes w64 a) k 0 ≡ get_or (to_le_bytes w64 b) k 0
  no_difference none k from below =
      bytes_alike a b place 64 (λ i lt. ap (λ n. bit_at n i) (sym is ∙ none) ∙ bit_at-zero i) k from (omega (arith, below)) below
