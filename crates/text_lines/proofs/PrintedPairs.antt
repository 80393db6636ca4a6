-- What is printed of bytes and tags reads as them.
use Rattle.std.proofs.Common.{◌≡◌, ℕ, zero, suc, ◌+◌, ◌*◌, ◌/◌, ◌%◌, ◌<◌, ◌==◌, ◌&&◌, nat_lt, true, List, [], ◌∷◌, length, slice_index, Option, Some, None, unwrap_or, refl, sym, ap, ◌∙◌, subst, inl, inr, arith}
use Rattle.std.specs.List.{list_all}
use Rattle.std.proofs.lemmas.Bool.{agree_below_at, and_from, and_parts, cases_Bool, cond-false, cond-true, eq-eqb, eqb-true, ltb-true}
use Rattle.hex.specs.Hex.{IsBytes, encode_lower, encode_with, lower_digits}
use Rattle.dcd_base.specs.{declared.capacity.Tag.Tag, Layouts.is_byte}
use Rattle.text_lines.proofs.{PrintedNumbers.high_by, PrintedNumbers.some_is, PrintedWords.number_is_word}
use Rattle.text_lines.specs.Characters.{IsNumberWord, IsTextWord, below, digit_in, digit_value, is_high}
use Rattle.text_lines.specs.{Pairs.pair_said, Pairs.pair_text, Pairs.pairs_said, Pairs.tag_of_bytes, Pairs.tag_said, Pairs.tag_text, WordChains.◌>>?◌ as ◌>>=◌}

digit_reads : (d : ℕ) → d < 16 → digit_in 16 (slice_index lower_digits d) ≡ Some d
digit_reads d low = some_is (digit_in 16 (slice_index lower_digits d)) d (omega (arith, low)) (eqb-true _ d (agree_below_at (λ n. unwrap_or (digit_in 16 (slice_index lower_digits n)) 99 == n) (λ n. true) 16 d refl low))

pair_reads : (b : ℕ) → b < 256 → pair_said (slice_index lower_digits (b / 16)) (slice_index lower_digits (b % 16)) ≡ Some b
pair_reads b small =
    let high : b / 16 < 16 = omega (arith, small) in
    let low : b % 16 < 16 = omega arith in
    let whole : b / 16 * 16 + b % 16 ≡ b = omega arith in
    rw (digit_reads (b / 16) high, digit_reads (b % 16) low) (ap Some whole)

-- printed bytes read as they are
pub bytes_read : (bytes : List ℕ) → IsBytes bytes → pairs_said (encode_lower bytes) ≡ Some bytes
unfolding encode_with pairs_said
bytes_read [] small = refl
bytes_read (b ∷ bytes) small = rw (pair_reads b (small 0), bytes_read bytes (λ i. small (suc i))) refl

one_byte : (b : ℕ) → b < 256 → IsBytes (b ∷ [])
one_byte b small zero = small
one_byte b small (suc i) = omega arith

pub pair_reads_back : (b : ℕ) → b < 256 → pairs_said (pair_text b) ≡ Some (b ∷ [])
pair_reads_back b small = bytes_read (b ∷ []) (one_byte b small)

pub tag_reads : (tag : Tag) → length tag.0 ≡ 16 → IsBytes tag.0 → tag_said (tag_text tag) ≡ Some tag
unfolding tag_said
tag_reads tag long small = ap (λ (bytes : Option (List ℕ)). bytes >>= tag_of_bytes) (bytes_read tag.0 small) ∙ (rw (eq-eqb (length tag.0) 16 long) refl)

-- pairs of digits are digits
pub pairs_high : (word bytes : List ℕ) → pairs_said word ≡ Some bytes → list_all is_high word ≡ true
unfolding pairs_said
pairs_high [] bytes is = refl
pairs_high (c ∷ []) bytes is = cc
pairs_high (c ∷ d ∷ rest) bytes is = first (digit_in 16 c) (digit_in 16 d) (pairs_said rest) refl refl is (λ xs e. pairs_high rest xs e)
  where
    first : (h l : Option ℕ) (more : Option (List ℕ)) → digit_in 16 c ≡ h → digit_in 16 d ≡ l
        → ((h >>= (λ x. l >>= (λ y. Some (x * 16 + y)))) >>= (λ byte. more >>= (λ xs. Some (byte ∷ xs)))) ≡ Some bytes
        → ((xs : List ℕ) → more ≡ Some xs → list_all is_high rest ≡ true) → (is_high c && (is_high d && list_all is_high rest)) ≡ true
    first None l more p q is each = cc
    first (Some h) None more p q is each = cc
    first (Some h) (Some l) None p q is each = cc
    first (Some h) (Some l) (Some xs) p q is each =
        and_from (is_high c) (is_high d && list_all is_high rest) (high_by 16 c h p) (and_from (is_high d) (list_all is_high rest) (high_by 16 d l q) (each xs refl))

-- ---- words
bytes_length : (bytes : List ℕ) → length (encode_lower bytes) ≡ 2 * length bytes
unfolding encode_with
bytes_length [] = refl
bytes_length (b ∷ bytes) = omega (arith, bytes_length bytes)

digits_word : (bytes : List ℕ) → 0 < length bytes → IsBytes bytes → IsNumberWord (encode_lower bytes)
digits_word bytes some small = (pairs_high (encode_lower bytes) bytes (bytes_read bytes small), omega (arith, some, bytes_length bytes))

pub pair_word : (b : ℕ) → b < 256 → IsTextWord (pair_text b)
pair_word b small = number_is_word (pair_text b) (digits_word (b ∷ []) (omega arith) (one_byte b small))

pub tag_word : (tag : Tag) → length tag.0 ≡ 16 → IsBytes tag.0 → IsTextWord (tag_text tag)
tag_word tag long small = number_is_word (tag_text tag) (digits_word tag.0 (omega (arith, long)) small)

-- each byte of a list is below 256
pub each_small : (bytes : List ℕ) → list_all is_byte bytes ≡ true → IsBytes bytes
each_small [] all i = omega arith
each_small (b ∷ bytes) all zero = ltb-true b 256 (and_parts (is_byte b) (list_all is_byte bytes) all).0
each_small (b ∷ bytes) all (suc i) = each_small bytes (and_parts (is_byte b) (list_all is_byte bytes) all).1 i

-- ---- bytes that pairs of digits say
low_digit : (base : ℕ) (o : Option ℕ) (d : ℕ) → below base o ≡ Some d → d < base
low_digit base None d is = cc
low_digit base (Some n) d is = elim (cases_Bool (nat_lt n base)) [
  | inl e ↦ let f : Some n ≡ Some d = sym (cond-true (nat_lt n base) (Some n) None e) ∙ is in let g : n ≡ d = (cc) in omega (arith, ltb-true n base e, g)
  | inr e ↦ let f : None ≡ Some d = sym (cond-false (nat_lt n base) (Some n) None e) ∙ is in cc
]

byte_then : (b : ℕ) (bytes : List ℕ) → b < 256 → IsBytes bytes → IsBytes (b ∷ bytes)
byte_then b bytes small rest zero = small
byte_then b bytes small rest (suc i) = rest i

some_bytes : (xs ys : List ℕ) → Some xs ≡ Some ys → xs ≡ ys
some_bytes xs ys e = cc

no_bytes : IsBytes []
no_bytes i = omega arith

pub pairs_small : (word bytes : List ℕ) → pairs_said word ≡ Some bytes → IsBytes bytes
unfolding pairs_said
pairs_small [] bytes is = subst IsBytes (some_bytes [] bytes is) no_bytes
pairs_small (c ∷ []) bytes is = cc
pairs_small (c ∷ d ∷ rest) bytes is = first (digit_in 16 c) (digit_in 16 d) (pairs_said rest) refl refl is (λ xs e. pairs_small rest xs e)
  where
    first : (h l : Option ℕ) (more : Option (List ℕ)) → digit_in 16 c ≡ h → digit_in 16 d ≡ l
        → ((h >>= (λ x. l >>= (λ y. Some (x * 16 + y)))) >>= (λ byte. more >>= (λ xs. Some (byte ∷ xs)))) ≡ Some bytes
        → ((xs : List ℕ) → more ≡ Some xs → IsBytes xs) → IsBytes bytes
    first None l more p q is each = cc
    first (Some h) None more p q is each = cc
    first (Some h) (Some l) None p q is each = cc
    first (Some h) (Some l) (Some xs) p q is each =
        let high = low_digit 16 (digit_value c) h p in
        let low = low_digit 16 (digit_value d) l q in
        subst IsBytes (some_bytes ((h * 16 + l) ∷ xs) bytes is) (byte_then (h * 16 + l) xs (omega (arith, high, low)) (each xs refl))
