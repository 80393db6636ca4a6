-- What is printed of extents and of block sizes reads as them.
use Rattle.std.proofs.Common.{◌≡◌, ℕ, zero, suc, ◌+◌, ◌*◌, ◌/◌, ◌%◌, ◌^◌, ◌<◌, ◌≤◌, ◌==◌, ◌&&◌, nat_lt, Bool, true, false, not, List, [], ◌∷◌, ◌++◌, map, length, take, drop, Option, Some, None, refl, sym, ap, ◌∙◌, subst, inl, inr, arith, append-nil, append_assoc, length-append}
use Rattle.std.proofs.Math.Nat.{mod-lt, mod-le, mod-eq_of_lt, div-eq_of_lt, one-le-pow, pow-le-pow_right}
use Rattle.std.proofs.lemmas.{List.drop_at, List.length_push, List.map-append, List.take_at, List.Folds.list_all-append, Nat.mod-pow-add}
use Rattle.std.specs.{Int.is_power_of_two, List.flat_map, List.list_all, Prelude.codes}
use Rattle.std.proofs.lemmas.Bool.{and_from, and_parts, cases_Bool, cond-false, cond-true, eq-eqb, eqb-false, eqb-true, lt-ltb, ltb-true, ne_eqb}
use lib.Count.{ones, ones_cat, ones_in}
use Rattle.dcd_base.specs.declared.capacity.Extent.{Extent}
use Rattle.text_lines.proofs.{PrintedNumbers.number_high, PrintedNumbers.size_reads, WordLaws.front_more, WordLaws.front_none}
use Rattle.text_lines.specs.Characters.{IsNumberWord, IsTextWord, passed_from, is_high, is_other, is_printed}
use Rattle.text_lines.specs.{Extents.after, Extents.before, Extents.extent_said, Extents.extent_text, Extents.untagged, Numbers.number_said, Numbers.size_text, WordChains.◌>>?◌ as ◌>>=◌}
use Rattle.text_lines.specs.Sizes.{comma_pieces, comma_then, commas_text, is_size, put_in_piece, size_said, size_where, sizes_below, sizes_from, sizes_said, sizes_text, sound_size, with_64_bits, with_size}

-- ---- a sign between numbers
high_other : (sign c : ℕ) → sign ≤ 47 → is_high c ≡ true → is_other sign c ≡ true
high_other sign c low high = ap not (ne_eqb c sign (λ e. let h = ltb-true 47 c high in omega (arith, low, e, h)))

pub sign_at : (sign : ℕ) (xs ys : List ℕ) → sign ≤ 47 → list_all is_high xs ≡ true → passed_from (is_other sign) 0 (xs ++ sign ∷ ys) ≡ length xs
sign_at sign [] ys low high = front_none (is_other sign) sign ys (ap not (eq-eqb sign sign refl))
sign_at sign (c ∷ cs) ys low high =
    let p = and_parts (is_high c) (list_all is_high cs) high in
    front_more (is_other sign) c (cs ++ sign ∷ ys) (high_other sign c low p.0) ∙ ap suc (sign_at sign cs ys low p.1)

-- what stands before the sign and behind it
pub before_sign : (sign : ℕ) (xs ys : List ℕ) → sign ≤ 47 → list_all is_high xs ≡ true → before sign (xs ++ sign ∷ ys) ≡ xs
before_sign sign xs ys low high = ap (λ n. take n (xs ++ sign ∷ ys)) (sign_at sign xs ys low high) ∙ take_at xs (sign ∷ ys) (length xs) refl

pub after_sign : (sign : ℕ) (xs ys : List ℕ) → sign ≤ 47 → list_all is_high xs ≡ true → after sign (xs ++ sign ∷ ys) ≡ ys
after_sign sign xs ys low high =
    ap (λ n. drop (n + 1) (xs ++ sign ∷ ys)) (sign_at sign xs ys low high)
    ∙ ap (drop (length xs + 1)) (sym (append_assoc xs (sign ∷ []) ys))
    ∙ drop_at (xs ++ sign ∷ []) ys (length xs + 1) (length_push xs sign)

-- ---- extents
pub extent_reads : (x : Extent) → x.start < 2 ^ 64 → x.length < 2 ^ 64 → extent_said (extent_text x) ≡ Some (untagged x.start x.length)
unfolding extent_said extent_text
extent_reads x start size =
    let high = (number_high x.start (size_text x.start) (size_reads x.start start)).0 in
    let text : (size_text x.start ++ codes "+") ++ size_text x.length ≡ size_text x.start ++ 43 ∷ size_text x.length = append_assoc (size_text x.start) (43 ∷ []) (size_text x.length) in
    let front : number_said (before 43 ((size_text x.start ++ codes "+") ++ size_text x.length)) ≡ Some x.start =
    ap (λ w. number_said (before 43 w)) text ∙ ap number_said (before_sign 43 (size_text x.start) (size_text x.length) (omega arith) high) ∙ size_reads x.start start in
    let back : number_said (after 43 ((size_text x.start ++ codes "+") ++ size_text x.length)) ≡ Some x.length =
    ap (λ w. number_said (after 43 w)) text ∙ ap number_said (after_sign 43 (size_text x.start) (size_text x.length) (omega arith) high) ∙ size_reads x.length size in
    rw (front, back) refl

-- ---- block sizes
comma_part : (xs ys : List ℕ) → list_all is_high xs ≡ true → comma_pieces (xs ++ 44 ∷ ys) ≡ xs ∷ comma_pieces ys
unfolding comma_pieces
comma_part [] ys high = refl
comma_part (c ∷ cs) ys high =
    let p = and_parts (is_high c) (list_all is_high cs) high in
    let other : (c == 44) ≡ false = ne_eqb c 44 (λ e. let h = ltb-true 47 c p.0 in omega (arith, e, h)) in
    rw other (ap (put_in_piece c) (comma_part cs ys p.1))

last_part : (xs : List ℕ) → list_all is_high xs ≡ true → comma_pieces xs ≡ xs ∷ []
unfolding comma_pieces
last_part [] high = refl
last_part (c ∷ cs) high =
    let p = and_parts (is_high c) (list_all is_high cs) high in
    let other : (c == 44) ≡ false = ne_eqb c 44 (λ e. let h = ltb-true 47 c p.0 in omega (arith, e, h)) in
    rw other (ap (put_in_piece c) (last_part cs p.1))

abbrev AreSmall : List ℕ → Type 0
AreSmall [] = Unit {0}
AreSmall (size ∷ sizes) = (size < 2 ^ 64) × AreSmall sizes

-- the pieces of printed sizes are what was printed of each
pieces_printed : (size : ℕ) (sizes : List ℕ) → size < 2 ^ 64 → AreSmall sizes → comma_pieces (size_text size ++ flat_map comma_then sizes) ≡ map size_text (size ∷ sizes)
pieces_printed size [] small each = ap comma_pieces (append-nil (size_text size)) ∙ last_part (size_text size) (number_high size (size_text size) (size_reads size small)).0
pieces_printed size (next ∷ sizes) small each =
    comma_part (size_text size) (size_text next ++ flat_map comma_then sizes) (number_high size (size_text size) (size_reads size small)).0
    ∙ ap (λ pieces. size_text size ∷ pieces) (pieces_printed next sizes each.0 each.1)

-- sizes one after another
sizes_append : (mask : ℕ) (ps qs : List (List ℕ)) → sizes_from mask (ps ++ qs) ≡ (sizes_from mask ps >>= (λ m. sizes_from m qs))
unfolding sizes_from
sizes_append mask [] qs = refl
sizes_append mask (p ∷ ps) qs = first (size_said p) (λ m. sizes_append m ps qs)
  where
    second : (more : Option ℕ) → ((m : ℕ) → sizes_from m (ps ++ qs) ≡ (sizes_from m ps >>= (λ k. sizes_from k qs))) → (more >>= (λ m. sizes_from m (ps ++ qs))) ≡ ((more >>= (λ m. sizes_from m ps)) >>= (λ k. sizes_from k qs))
    second None each = refl
    second (Some m) each = each m

    first : (size : Option ℕ) → ((m : ℕ) → sizes_from m (ps ++ qs) ≡ (sizes_from m ps >>= (λ k. sizes_from k qs)))
        → (size >>= (λ n. with_size mask n >>= (λ m. sizes_from m (ps ++ qs)))) ≡ ((size >>= (λ n. with_size mask n >>= (λ m. sizes_from m ps))) >>= (λ k. sizes_from k qs))
    first None each = refl
    first (Some n) each = second (with_size mask n) each

-- a power of two is the size that is printed of it
some_power : (n : ℕ) → 0 < 2 ^ n
some_power n = omega (arith, one-le-pow n 2 (omega arith))

one_bit : (n : ℕ) → is_power_of_two (2 ^ n) ≡ true
unfolding ones ones_in
one_bit n =
    let e : 2 ^ n ≡ 1 * 2 ^ n + 0 = omega arith in
    ap (λ m. ones m == 1) e ∙ ap (λ m. m == 1) (ones_cat n 1 0 (some_power n))

power_small : (n : ℕ) → n < 64 → 2 ^ n < 2 ^ 64
power_small n low = omega (arith, pow-le-pow_right {n = 2} (omega arith) {i = n} {j = 63} (omega (arith, low)))

power_is_size : (n : ℕ) → n < 64 → is_size (2 ^ n) ≡ true
power_is_size n low = and_from (nat_lt (2 ^ n) (2 ^ 64)) (is_power_of_two (2 ^ n)) (lt-ltb (2 ^ n) (2 ^ 64) (power_small n low)) (one_bit n)

power_said : (n : ℕ) → n < 64 → size_said (size_text (2 ^ n)) ≡ Some (2 ^ n)
power_said n low = ap (λ (o : Option ℕ). o >>= sound_size) (size_reads (2 ^ n) (power_small n low)) ∙ cond-true (is_size (2 ^ n)) (Some (2 ^ n)) None (power_is_size n low)

-- the low bits of a mask with one bit more
bits_more : (mask n : ℕ) → (mask / 2 ^ n % 2 == 1) ≡ true → mask % 2 ^ n + 2 ^ n ≡ mask % 2 ^ suc n
bits_more mask n set =
    let e : mask / 2 ^ n % 2 ≡ 1 = eqb-true (mask / 2 ^ n % 2) 1 set in
    let whole : mask % 2 ^ (1 + n) ≡ mask / 2 ^ n % 2 * 2 ^ n + mask % 2 ^ n = mod-pow-add mask 1 n in
    let next : mask % 2 ^ (1 + n) ≡ mask % 2 ^ suc n = ap (λ k. mask % 2 ^ k) (omega arith) in
    let one : mask / 2 ^ n % 2 * 2 ^ n ≡ 1 * 2 ^ n = ap (λ b. b * 2 ^ n) e in
    omega (arith, whole, next, one)

bits_same : (mask n : ℕ) → (mask / 2 ^ n % 2 == 1) ≡ false → mask % 2 ^ n ≡ mask % 2 ^ suc n
bits_same mask n unset =
    let e : mask / 2 ^ n % 2 ≡ 0 = let h = eqb-false (mask / 2 ^ n % 2) 1 unset in omega (arith, h) in
    let whole : mask % 2 ^ (1 + n) ≡ mask / 2 ^ n % 2 * 2 ^ n + mask % 2 ^ n = mod-pow-add mask 1 n in
    let next : mask % 2 ^ (1 + n) ≡ mask % 2 ^ suc n = ap (λ k. mask % 2 ^ k) (omega arith) in
    let one : mask / 2 ^ n % 2 * 2 ^ n ≡ 0 * 2 ^ n = ap (λ b. b * 2 ^ n) e in
    omega (arith, whole, next, one)

size_added : (mask n : ℕ) → mask < 2 ^ 64 → (mask / 2 ^ n % 2 == 1) ≡ true → with_size (mask % 2 ^ n) (2 ^ n) ≡ Some (mask % 2 ^ suc n)
size_added mask n small set =
    let low : mask % 2 ^ n < 2 ^ n = mod-lt mask (some_power n) in
    let none : mask % 2 ^ n / 2 ^ n ≡ 0 = div-eq_of_lt low in
    let new : (mask % 2 ^ n / 2 ^ n % 2 == 1) ≡ false = ap (λ q. q % 2 == 1) none in
    let room : mask % 2 ^ n + 2 ^ n < 2 ^ 64 = omega (arith, small, bits_more mask n set, mod-le mask (2 ^ suc n)) in
    cond-false (mask % 2 ^ n / 2 ^ n % 2 == 1) (Some (mask % 2 ^ n)) (with_64_bits (mask % 2 ^ n + 2 ^ n)) new
    ∙ cond-true (nat_lt (mask % 2 ^ n + 2 ^ n) (2 ^ 64)) (Some (mask % 2 ^ n + 2 ^ n)) None (lt-ltb (mask % 2 ^ n + 2 ^ n) (2 ^ 64) room)
    ∙ ap Some (bits_more mask n set)

one_piece : (mask n more : ℕ) → size_said (size_text n) ≡ Some n → with_size mask n ≡ Some more → sizes_from mask (size_text n ∷ []) ≡ Some more
unfolding sizes_from
one_piece mask n more said room = ap (λ (s : Option ℕ). s >>= (λ k. with_size mask k >>= (λ m. Some m))) said ∙ ap (λ (m : Option ℕ). m >>= (λ k. Some k)) room

-- the sizes of the lowest bits read as those bits
bits_read : (mask n : ℕ) → n ≤ 64 → mask < 2 ^ 64 → sizes_from 0 (map size_text (sizes_below mask n)) ≡ Some (mask % 2 ^ n)
unfolding sizes_from sizes_below
bits_read mask zero few small = ap Some (omega arith)
bits_read mask (suc n) few small =
    let before = bits_read mask n (omega (arith, few)) small in
    let low : n < 64 = omega (arith, few) in
    elim (cases_Bool (mask / 2 ^ n % 2 == 1)) [
      | inl set ↦
          ap (λ b. sizes_from 0 (map size_text (sizes_below mask n ++ size_where b (2 ^ n)))) set
          ∙ ap (sizes_from 0) (map-append size_text (sizes_below mask n) (2 ^ n ∷ []))
          ∙ sizes_append 0 (map size_text (sizes_below mask n)) (size_text (2 ^ n) ∷ [])
          ∙ ap (λ (m : Option ℕ). m >>= (λ k. sizes_from k (size_text (2 ^ n) ∷ []))) before
          ∙ one_piece (mask % 2 ^ n) (2 ^ n) (mask % 2 ^ suc n) (power_said n low) (size_added mask n small set)
      | inr unset ↦
          ap (λ b. sizes_from 0 (map size_text (sizes_below mask n ++ size_where b (2 ^ n)))) unset
          ∙ ap (λ sizes. sizes_from 0 (map size_text sizes)) (append-nil (sizes_below mask n))
          ∙ before ∙ ap Some (bits_same mask n unset)
    ]

sizes_small : (mask n : ℕ) → n ≤ 64 → AreSmall (sizes_below mask n)
unfolding sizes_below
sizes_small mask zero few = tt
sizes_small mask (suc n) few = by (sizes_below mask n) (mask / 2 ^ n % 2 == 1) (sizes_small mask n (omega (arith, few)))
  where
    by : (sizes : List ℕ) (set : Bool) → AreSmall sizes → AreSmall (sizes ++ size_where set (2 ^ n))
    by [] true each = (power_small n (omega (arith, few)), tt)
    by [] false each = tt
    by (size ∷ sizes) set each = (each.0, by sizes set each.1)

-- printed sizes are pieces
printed_pieces : (mask : ℕ) (sizes : List ℕ) → 0 < mask → AreSmall sizes → sizes_from 0 (map size_text sizes) ≡ Some mask → sizes_from 0 (comma_pieces (commas_text sizes)) ≡ Some mask
unfolding sizes_from
printed_pieces mask [] some each is = let e : 0 ≡ mask = (cc) in absurd (omega (arith, some, e))
printed_pieces mask (size ∷ sizes) some each is = ap (sizes_from 0) (pieces_printed size sizes each.0 each.1) ∙ is

-- the printed sizes of a mask read as it
pub sizes_read : (mask : ℕ) → 0 < mask → mask < 2 ^ 64 → sizes_said (sizes_text mask) ≡ Some mask
unfolding sizes_said sizes_text
sizes_read mask some small = printed_pieces mask (sizes_below mask 64) some (sizes_small mask 64 (omega arith)) (bits_read mask 64 (omega arith) small ∙ ap Some (mod-eq_of_lt small))

-- ---- words
pub high_printed : (word : List ℕ) → list_all is_high word ≡ true → list_all is_printed word ≡ true
high_printed [] high = refl
high_printed (c ∷ cs) high =
    let p = and_parts (is_high c) (list_all is_high cs) high in
    let h = ltb-true 47 c p.0 in
    and_from (is_printed c) (list_all is_printed cs) (lt-ltb 35 c (omega (arith, h))) (high_printed cs p.1)

pub number_is_word : (word : List ℕ) → IsNumberWord word → IsTextWord word
number_is_word word number = (high_printed word number.0, number.1)

-- a sign between two words
pub joined_word : (sign : ℕ) (xs ys : List ℕ) → 35 < sign → IsNumberWord xs → IsNumberWord ys → IsTextWord (xs ++ sign ∷ ys)
joined_word sign xs ys low a b = (
  list_all-append is_printed xs (sign ∷ ys)
      ∙ and_from (list_all is_printed xs) (is_printed sign && list_all is_printed ys) (high_printed xs a.0)
      (and_from (is_printed sign) (list_all is_printed ys) (lt-ltb 35 sign low) (high_printed ys b.0)),
  omega (arith, a.1, length-append xs (sign ∷ ys)),
)

pub size_word : (n : ℕ) → n < 2 ^ 64 → IsNumberWord (size_text n)
size_word n small = number_high n (size_text n) (size_reads n small)

pub extent_word : (x : Extent) → x.start < 2 ^ 64 → x.length < 2 ^ 64 → IsTextWord (extent_text x)
unfolding extent_text
extent_word x start size =
    subst IsTextWord (sym (append_assoc (size_text x.start) (43 ∷ []) (size_text x.length)))
    (joined_word 43 (size_text x.start) (size_text x.length) (omega arith) (size_word x.start start) (size_word x.length size))

commas_word : (size : ℕ) (sizes : List ℕ) → size < 2 ^ 64 → AreSmall sizes → IsTextWord (size_text size ++ flat_map comma_then sizes)
commas_word size [] small each = subst IsTextWord (sym (append-nil (size_text size))) (number_is_word (size_text size) (size_word size small))
commas_word size (next ∷ sizes) small each =
    let rest = commas_word next sizes each.0 each.1 in
    let first = size_word size small in (
      list_all-append is_printed (size_text size) (44 ∷ (size_text next ++ flat_map comma_then sizes))
          ∙ and_from (list_all is_printed (size_text size)) (list_all is_printed (size_text next ++ flat_map comma_then sizes)) (high_printed (size_text size) first.0) rest.0,
      omega (arith, first.1, length-append (size_text size) (44 ∷ (size_text next ++ flat_map comma_then sizes))),
    )

some_sizes : (mask : ℕ) (sizes : List ℕ) → 0 < mask → AreSmall sizes → sizes_from 0 (map size_text sizes) ≡ Some mask → IsTextWord (commas_text sizes)
unfolding sizes_from
some_sizes mask [] some each is = let e : 0 ≡ mask = (cc) in absurd (omega (arith, some, e))
some_sizes mask (size ∷ sizes) some each is = commas_word size sizes each.0 each.1

pub sizes_word : (mask : ℕ) → 0 < mask → mask < 2 ^ 64 → IsTextWord (sizes_text mask)
unfolding sizes_text
sizes_word mask some small = some_sizes mask (sizes_below mask 64) some (sizes_small mask 64 (omega arith)) (bits_read mask 64 (omega arith) small ∙ ap Some (mod-eq_of_lt small))
