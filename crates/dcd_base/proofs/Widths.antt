-- Numbers of one, two, four and eight bytes, read and written.
use Rattle.std.proofs.Common.{◌≡◌, ℕ, ◌+◌, ◌/◌, ◌%◌, ◌^◌, ◌<◌, List, [], ◌∷◌, ◌++◌, length, take, drop, refl, ap, arith, inl, inr, lit<}
use Rattle.std.proofs.lemmas.{Bool.cases_lt, List.length-take, List.get_or-take, List.get_or-drop, List.get_or_past}
use Rattle.std.proofs.lemmas.Nat.{le_bytes_2, le_bytes_4, le_bytes_8, from_le_bytes-to_le_bytes_2, from_le_bytes-to_le_bytes_4, from_le_bytes-to_le_bytes_8}
use Rattle.std.specs.Int.{Width, w8, w16, w32, w64, byte_len, to_le_bytes, from_le_bytes}
use Rattle.dcd_base.{specs.Layouts.u16_bytes, specs.Layouts.u24_bytes, proofs.Fields.IsBytes}

pub IsBytes-drop : (n : ℕ) (bytes : List ℕ) → IsBytes bytes → IsBytes (drop n bytes)
IsBytes-drop n bytes small i = rw get_or-drop (small (n + i))

pub IsBytes-take : (n : ℕ) (bytes : List ℕ) → IsBytes bytes → IsBytes (take n bytes)
IsBytes-take n bytes small i =
    elim (cases_lt i n) [
      | inl lt ↦ rw (get_or-take n bytes i 0 lt) (small i)
      | inr le ↦ rw (get_or_past (take n bytes) i 0 (omega (arith, length-take n bytes))) (omega arith)
    ]

-- what is known of a width
pub record IsWide (w : Width) : Type 0 where
  pub len : (n : ℕ) → length (to_le_bytes w n) ≡ byte_len w
  pub front : (bytes : List ℕ) → from_le_bytes w (take (byte_len w) bytes) ≡ from_le_bytes w bytes
  pub back : (bytes : List ℕ) → length bytes ≡ byte_len w → IsBytes bytes → to_le_bytes w (from_le_bytes w bytes) ≡ bytes
  pub again : (n : ℕ) → n < 256 ^ byte_len w → from_le_bytes w (to_le_bytes w n) ≡ n
  pub below : (bytes : List ℕ) → IsBytes bytes → from_le_bytes w bytes < 256 ^ byte_len w

back_8 : (bytes : List ℕ) → length bytes ≡ 1 → IsBytes bytes → to_le_bytes w8 (from_le_bytes w8 bytes) ≡ bytes
back_8 (b ∷ []) len small = let lt : b < 256 = small 0 in ap (λ n. n ∷ []) (omega arith)
back_8 bytes len small = absurd (omega (arith, len))

front_8 : (bytes : List ℕ) → from_le_bytes w8 (take 1 bytes) ≡ from_le_bytes w8 bytes
front_8 [] = refl
front_8 (a ∷ bytes) = refl

front_16 : (bytes : List ℕ) → from_le_bytes w16 (take 2 bytes) ≡ from_le_bytes w16 bytes
front_16 [] = refl
front_16 (a ∷ []) = refl
front_16 (a ∷ b ∷ bytes) = refl

front_32 : (bytes : List ℕ) → from_le_bytes w32 (take 4 bytes) ≡ from_le_bytes w32 bytes
front_32 bytes =
    rw (get_or-take 4 bytes 0 0 (lit< tt), get_or-take 4 bytes 1 0 (lit< tt), get_or-take 4 bytes 2 0 (lit< tt), get_or-take 4 bytes 3 0 (lit< tt)) refl

front_64 : (bytes : List ℕ) → from_le_bytes w64 (take 8 bytes) ≡ from_le_bytes w64 bytes
front_64 bytes =
    rw (get_or-take 8 bytes 0 0 (lit< tt), get_or-take 8 bytes 1 0 (lit< tt), get_or-take 8 bytes 2 0 (lit< tt), get_or-take 8 bytes 3 0 (lit< tt), get_or-take 8 bytes 4 0 (lit< tt), get_or-take 8 bytes 5 0 (lit< tt), get_or-take 8 bytes 6 0 (lit< tt), get_or-take 8 bytes 7 0 (lit< tt)) refl

pub wide_8 : IsWide w8
wide_8 = record {
  len = λ n. refl;
  front = front_8;
  back = back_8;
  again = λ n lt. omega arith;
  below = λ bytes small. small 0;
}

pub wide_16 : IsWide w16
wide_16 = record {
  len = λ n. refl;
  front = front_16;
  back = λ bytes len small. le_bytes_2 bytes _ len small refl;
  again = λ n lt. from_le_bytes-to_le_bytes_2 n lt;
  below = λ bytes small. omega (arith, small 0, small 1);
}

pub wide_32 : IsWide w32
wide_32 = record {
  len = λ n. refl;
  front = front_32;
  back = λ bytes len small. le_bytes_4 bytes _ len small refl;
  again = λ n lt. from_le_bytes-to_le_bytes_4 n lt;
  below = λ bytes small. omega (arith, small 0, small 1, small 2, small 3);
}

pub wide_64 : IsWide w64
wide_64 = record {
  len = λ n. refl;
  front = front_64;
  back = λ bytes len small. le_bytes_8 bytes _ len small refl;
  again = λ n lt. from_le_bytes-to_le_bytes_8 n lt;
  below = λ bytes small. omega (arith, small 0, small 1, small 2, small 3, small 4, small 5, small 6, small 7);
}

-- a number of three bytes in its two lower bytes and its highest
pub u24_parts : (n : ℕ) → n < 2 ^ 24 → u24_bytes n ≡ u16_bytes (n % 2 ^ 16) ++ n / 2 ^ 16 ∷ []
u24_parts n small =
    let low : n % 256 ≡ n % 65536 % 256 = omega arith in
    let middle : n / 256 % 256 ≡ n % 65536 / 256 % 256 = omega arith in
    let high : n / 65536 % 256 ≡ n / 65536 = omega (arith, small) in
    λ i. low i ∷ middle i ∷ high i ∷ []
