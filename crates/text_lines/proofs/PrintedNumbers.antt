-- What is printed of a number reads as that number.
use Rattle.std.proofs.Common.{◌≡◌, ℕ, zero, suc, ◌+◌, ◌-◌, ◌*◌, ◌/◌, ◌%◌, ◌^◌, ◌<◌, ◌≤◌, Bool, true, false, cond, not, ◌==◌, ◌&&◌, nat_lt, nat_le, List, [], ◌∷◌, ◌++◌, length, take, drop, slice_index, Option, Some, None, unwrap_or, refl, sym, ap, ◌∙◌, inl, inr, arith, append_assoc, length-append}
use Rattle.std.proofs.{Math.Nat.div-add-mod', Math.Nat.mod-lt, Math.Nat.div-lt_iff_lt-mul, Math.Nat.pow-suc, Math.Nat.pow-zero, lemmas.List.take_at, lemmas.List.get_or_at, lemmas.List.length_push}
use Rattle.std.{proofs.lemmas.List.Folds.list_all-append, specs.Fmt.digits, specs.Fmt.digits_onto, specs.Fmt.digit_glyph, specs.List.list_all, specs.Option.is_none, specs.Option.option_map}
use Rattle.std.specs.Prelude.{codes, decimal}
use Rattle.std.proofs.lemmas.Bool.{agree_below_at, and_parts, and_from, and_right, cases_Bool, cond-false, cond-true, not-true, cases_lt, eqb-false, eqb-true, ne_eqb, lt-ltb, leb-true, lt-leb}
use Rattle.text_lines.specs.{Characters.below, Characters.digit_in, Characters.digit_value, Characters.unit_of, Characters.is_high, WordChains.◌>>?◌ as ◌>>=◌}
use Rattle.text_lines.specs.Numbers.{digits_from, digits_said, without_last, last_character, has_prefix, prefixed_said, scaled_said, number_said, hexadecimal, is_scaled, size_text}

-- ---- one digit
abbrev glyph_reads_back : ℕ → Bool
glyph_reads_back d = unwrap_or (digit_value (digit_glyph false d)) 99 == d

pub some_is : (o : Option ℕ) (d : ℕ) → d < 99 → unwrap_or o 99 ≡ d → o ≡ Some d
some_is (Some v) d low e = ap Some e
some_is None d low e = absurd (omega (arith, low, e))

glyph_value : (d : ℕ) → d < 16 → digit_value (digit_glyph false d) ≡ Some d
glyph_value d low = some_is (digit_value (digit_glyph false d)) d (omega (arith, low)) (eqb-true _ d (agree_below_at glyph_reads_back (λ n. true) 16 d refl low))

pub glyph_reads : (base d : ℕ) → base ≤ 16 → d < base → digit_in base (digit_glyph false d) ≡ Some d
glyph_reads base d high low = ap (below base) (glyph_value d (omega (arith, high, low))) ∙ ap (λ test. cond test (Some d) None) (lt-ltb d base low)

-- ---- digits
-- the last digit of a number behind the others
last_digit : (base m n : ℕ) (acc : List ℕ) → 0 < base → base ≤ 16 → digits_from base m (digit_glyph false (n % base) ∷ acc) ≡ digits_from base (m * base + n % base) acc
unfolding digits_from
last_digit base m n acc some high = ap (λ d. d >>= (λ digit. digits_from base (m * base + digit) acc)) (glyph_reads base (n % base) high (mod-lt n some))

some_power : (k base q : ℕ) → q < base ^ k → (q ≡ 0 → ⊥) → 0 < k
some_power zero base q less more = absurd (more (omega (arith, less, pow-zero base)))
some_power (suc k) base q less more = omega arith

-- the digits of a number in front of others read as the number, and then those
digits_read : (k base n : ℕ) (acc : List ℕ) → 0 < base → base ≤ 16 → n < base ^ k → 0 < k → digits_from base 0 (digits_onto k base false n acc) ≡ digits_from base n acc
digits_read zero base n acc some high fits any = absurd (omega (arith, any))
digits_read (suc k) base n acc some high fits any = elim (cases_Bool (n / base == 0)) [
  | inl e ↦
      let zero_is = eqb-true (n / base) 0 e in
      rw e (last_digit base 0 n acc some high ∙ ap (λ m. digits_from base m acc) (ap (λ q. q * base + n % base) (sym zero_is) ∙ div-add-mod' n base))
  | inr e ↦
      let front : n / base < base ^ k = (div-lt_iff_lt-mul some).1 (omega (arith, pow-suc base k, fits)) in
      let more : 0 < k = some_power k base (n / base) front (eqb-false (n / base) 0 e) in
      rw e (digits_read k base (n / base) (digit_glyph false (n % base) ∷ acc) some high front more
      ∙ last_digit base (n / base) n acc some high ∙ ap (λ m. digits_from base m acc) (div-add-mod' n base))
]

-- digits end with the last digit of the number
digits_end : (k base n : ℕ) (acc : List ℕ) → (front : List ℕ) × (digits_onto (suc k) base false n acc ≡ front ++ digit_glyph false (n % base) ∷ acc)
digits_end k base n acc = elim (cases_Bool (n / base == 0)) [
  | inl e ↦ ([], rw e refl)
  | inr e ↦ let p = further k (n / base) (digit_glyph false (n % base) ∷ acc) in (p.0, rw e p.1)
]
  where
    further : (k m : ℕ) (acc : List ℕ) → (front : List ℕ) × (digits_onto k base false m acc ≡ front ++ acc)
    further zero m acc = ([], refl)
    further (suc k) m acc = elim (cases_Bool (m / base == 0)) [
      | inl e ↦ (digit_glyph false (m % base) ∷ [], rw e refl)
      | inr e ↦ let p = further k (m / base) (digit_glyph false (m % base) ∷ acc) in (p.0 ++ digit_glyph false (m % base) ∷ [], rw e (p.1 ∙ sym (append_assoc p.0 (digit_glyph false (m % base) ∷ []) acc)))
    ]

-- ---- characters of numbers
low_no_digit : (base c : ℕ) → c ≤ 47 → digit_in base c ≡ None
low_no_digit base c low = rw (lt-leb 48 c (omega (arith, low)), lt-leb 97 c (omega (arith, low))) refl

pub high_by : (base c : ℕ) (d : ℕ) → digit_in base c ≡ Some d → is_high c ≡ true
high_by base c d is = elim (cases_lt 47 c) [
  | inl high ↦ lt-ltb 47 c high
  | inr low ↦ let e : None ≡ Some d = sym (low_no_digit base c low) ∙ is in cc
]

-- the characters of digits are high
pub digits_high : (base n v : ℕ) (cs : List ℕ) → digits_from base n cs ≡ Some v → list_all is_high cs ≡ true
unfolding digits_from
digits_high base n v [] is = refl
digits_high base n v (c ∷ cs) is = more (digit_in base c) refl is (λ d. digits_high base (n * base + d) v cs)
  where
    more : (digit : Option ℕ) → digit_in base c ≡ digit → (digit >>= (λ d. digits_from base (n * base + d) cs)) ≡ Some v → ((d : ℕ) → digits_from base (n * base + d) cs ≡ Some v → list_all is_high cs ≡ true) → (is_high c && list_all is_high cs) ≡ true
    more None e is rest = cc
    more (Some d) e is rest = and_from (is_high c) (list_all is_high cs) (high_by base c d e) (rest d is)

said_high : (base v : ℕ) (ds : List ℕ) → digits_said base ds ≡ Some v → (list_all is_high ds ≡ true) × (0 < length ds)
said_high base v [] is = cc
said_high base v (c ∷ cs) is = (digits_high base 0 v (c ∷ cs) is, omega arith)

-- a word is its front and its last character
front_at : (b : ℕ) (bytes : List ℕ) → take (length bytes) (b ∷ bytes) ++ slice_index (b ∷ bytes) (length bytes) ∷ [] ≡ b ∷ bytes
front_at b [] = refl
front_at b (c ∷ cs) = ap (λ xs. b ∷ xs) (front_at c cs)

front_and_last : (c : ℕ) (cs : List ℕ) → without_last (c ∷ cs) ++ last_character (c ∷ cs) ∷ [] ≡ c ∷ cs
front_and_last c cs = let e : length (c ∷ cs) - 1 ≡ length cs = omega arith in ap (λ n. take n (c ∷ cs) ++ slice_index (c ∷ cs) n ∷ []) e ∙ front_at c cs

pub last_push : (xs : List ℕ) (c : ℕ) → last_character (xs ++ c ∷ []) ≡ c
last_push xs c = let e : length (xs ++ c ∷ []) - 1 ≡ length xs = omega (arith, length_push xs c) in ap (slice_index (xs ++ c ∷ [])) e ∙ get_or_at xs c [] 0 (length xs) refl

pub front_push : (xs : List ℕ) (c : ℕ) → without_last (xs ++ c ∷ []) ≡ xs
front_push xs c = let e : length (xs ++ c ∷ []) - 1 ≡ length xs = omega (arith, length_push xs c) in ap (λ n. take n (xs ++ c ∷ [])) e ∙ take_at xs (c ∷ []) (length xs) refl

high_word : (c : ℕ) (cs : List ℕ) → list_all is_high (without_last (c ∷ cs)) ≡ true → is_high (last_character (c ∷ cs)) ≡ true → list_all is_high (c ∷ cs) ≡ true
high_word c cs front last =
    ap (list_all is_high) (sym (front_and_last c cs)) ∙ list_all-append is_high (without_last (c ∷ cs)) (last_character (c ∷ cs) ∷ [])
    ∙ and_from (list_all is_high (without_last (c ∷ cs))) (is_high (last_character (c ∷ cs)) && true) front (and_from (is_high (last_character (c ∷ cs))) true last refl)

two_high : (c d : ℕ) (cs : List ℕ) → (c == 48) ≡ true → (d == 120) ≡ true → list_all is_high cs ≡ true → list_all is_high (c ∷ d ∷ cs) ≡ true
two_high c d cs p q rest =
    let x = eqb-true c 48 p in let y = eqb-true d 120 q in
    and_from (is_high c) (is_high d && list_all is_high cs) (lt-ltb 47 c (omega (arith, x))) (and_from (is_high d) (list_all is_high cs) (lt-ltb 47 d (omega (arith, y))) rest)

prefixed_high : (v : ℕ) (word : List ℕ) → prefixed_said word ≡ Some v → (list_all is_high word ≡ true) × (0 < length word)
prefixed_high v [] is = cc
prefixed_high v (c ∷ []) is = elim (cases_Bool (has_prefix (c ∷ []))) [
  | inl e ↦ let p = and_parts (c == 48) (0 == 120) e in cc (p.1)
  | inr e ↦ said_high 10 v (c ∷ []) (sym (cond-false (has_prefix (c ∷ [])) (digits_said 16 []) (digits_said 10 (c ∷ [])) e) ∙ is)
]
prefixed_high v (c ∷ d ∷ cs) is = elim (cases_Bool (has_prefix (c ∷ d ∷ cs))) [
  | inl e ↦
      let p = and_parts (c == 48) (d == 120) e in
      let q = said_high 16 v cs (sym (cond-true (has_prefix (c ∷ d ∷ cs)) (digits_said 16 cs) (digits_said 10 (c ∷ d ∷ cs)) e) ∙ is) in
      (two_high c d cs p.0 p.1 q.0, omega arith)
  | inr e ↦ said_high 10 v (c ∷ d ∷ cs) (sym (cond-false (has_prefix (c ∷ d ∷ cs)) (digits_said 16 cs) (digits_said 10 (c ∷ d ∷ cs)) e) ∙ is)
]

low_no_unit : (c : ℕ) → c ≤ 47 → unit_of c ≡ None
low_no_unit c low = rw (ne_eqb c 75 (λ e. omega (arith, low, e)), ne_eqb c 77 (λ e. omega (arith, low, e)), ne_eqb c 71 (λ e. omega (arith, low, e)), ne_eqb c 84 (λ e. omega (arith, low, e)), ne_eqb c 80 (λ e. omega (arith, low, e))) refl

unit_high : (c unit : ℕ) → unit_of c ≡ Some unit → is_high c ≡ true
unit_high c unit is = elim (cases_lt 47 c) [
  | inl high ↦ lt-ltb 47 c high
  | inr low ↦ let e : None ≡ Some unit = sym (low_no_unit c low) ∙ is in cc
]

-- characters before a last one
ends_high : (word : List ℕ) → (list_all is_high (without_last word) ≡ true) × (0 < length (without_last word)) → is_high (last_character word) ≡ true → (list_all is_high word ≡ true) × (0 < length word)
ends_high [] front last = absurd (omega (arith, front.1))
ends_high (c ∷ cs) front last = (high_word c cs front.0 last, omega arith)

scaled_high : (word : List ℕ) (v : ℕ) (unit : Option ℕ) → unit_of (last_character word) ≡ unit → scaled_said word unit ≡ Some v → (list_all is_high word ≡ true) × (0 < length word)
scaled_high word v None e is = prefixed_high v word is
scaled_high word v (Some unit) e is = more (prefixed_said (without_last word)) refl is
  where
    more : (n : Option ℕ) → prefixed_said (without_last word) ≡ n → option_map (λ m. m * unit) n ≡ Some v → (list_all is_high word ≡ true) × (0 < length word)
    more None f g = cc
    more (Some n) f g = ends_high word (prefixed_high n (without_last word) f) (unit_high (last_character word) unit e)

-- a word that says a number has high characters alone
pub number_high : (v : ℕ) (word : List ℕ) → number_said word ≡ Some v → (list_all is_high word ≡ true) × (0 < length word)
unfolding number_said
number_high v word is = elim (cases_Bool (last_character word == 104)) [
  | inl e ↦
      let p = said_high 16 v (without_last word) (sym (cond-true (last_character word == 104) (digits_said 16 (without_last word)) (scaled_said word (unit_of (last_character word))) e) ∙ is) in
      let h = eqb-true (last_character word) 104 e in
      ends_high word p (lt-ltb 47 (last_character word) (omega (arith, h)))
  | inr e ↦ scaled_high word v (unit_of (last_character word)) refl (sym (cond-false (last_character word == 104) (digits_said 16 (without_last word)) (scaled_said word (unit_of (last_character word))) e) ∙ is)
]

-- ---- printed numbers
glyph_plain : (d : ℕ) → d < 16 → (digit_glyph false d == 104) ≡ false
glyph_plain d low = not-true (digit_glyph false d == 104) (agree_below_at (λ n. not (digit_glyph false n == 104)) (λ n. true) 16 d refl low)

glyph_no_unit : (d : ℕ) → d < 16 → unit_of (digit_glyph false d) ≡ None
glyph_no_unit d low = none_is (unit_of (digit_glyph false d)) (agree_below_at (λ n. is_none (unit_of (digit_glyph false n))) (λ n. true) 16 d refl low)
  where
    none_is : (o : Option ℕ) → is_none o ≡ true → o ≡ None
    none_is None e = refl
    none_is (Some v) e = cc

said_some : (base v : ℕ) (ds : List ℕ) → 0 < length ds → digits_from base 0 ds ≡ Some v → digits_said base ds ≡ Some v
said_some base v [] some is = absurd (omega (arith, some))
said_some base v (c ∷ cs) some is = is

-- the digits of a number: how they end, and that they say it
pub record Printed (base n : ℕ) (ds : List ℕ) : Type 0 where
  pub front : List ℕ
  pub ends : ds ≡ front ++ digit_glyph false (n % base) ∷ []
  pub said : digits_said base ds ≡ Some n

printed_digits : (base n : ℕ) → 2 ≤ base → base ≤ 16 → n < base ^ 64 → Printed base n (digits base false n)
unfolding digits digits_from
printed_digits base n some high fits =
    let p = digits_end 63 base n [] in
    record {
      front = p.0;
      ends = p.1;
      said = said_some base n (digits_onto 64 base false n []) (omega (arith, ap length p.1, length-append p.0 (digit_glyph false (n % base) ∷ []))) (digits_read 64 base n [] (omega (arith, some)) high fits (omega arith));
    }

-- a word that ends with a digit and has no h or suffix there
ends_plain : (base n : ℕ) (word front : List ℕ) → 2 ≤ base → base ≤ 16 → word ≡ front ++ digit_glyph false (n % base) ∷ [] → number_said word ≡ prefixed_said word
unfolding number_said
ends_plain base n word front some high is =
    let last : last_character word ≡ digit_glyph false (n % base) = ap last_character is ∙ last_push front (digit_glyph false (n % base)) in
    let below_base : n % base < base = mod-lt n (omega (arith, some)) in
    let low : n % base < 16 = omega (arith, below_base, high) in
    cond-false (last_character word == 104) (digits_said 16 (without_last word)) (scaled_said word (unit_of (last_character word))) (ap (λ c. c == 104) last ∙ glyph_plain (n % base) low)
    ∙ ap (scaled_said word) (ap unit_of last ∙ glyph_no_unit (n % base) low)

no_prefix : (v : ℕ) (word : List ℕ) → digits_said 10 word ≡ Some v → has_prefix word ≡ false
unfolding digits_from
no_prefix v [] is = refl
no_prefix v (c ∷ []) is = and_right (c == 48) (0 == 120) refl
no_prefix v (c ∷ d ∷ cs) is = elim (cases_Bool (d == 120)) [
  | inl e ↦ let x = eqb-true d 120 e in absurd (never (digit_in 10 c) (ap (λ m. digit_in 10 m) x) is)
  | inr e ↦ and_right (c == 48) (d == 120) e
]
  where
    never : (digit : Option ℕ) → digit_in 10 d ≡ None → (digit >>= (λ m. digit_in 10 d >>= (λ k. digits_from 10 ((0 * 10 + m) * 10 + k) cs))) ≡ Some v → ⊥
    never None e f = cc
    never (Some m) e f = let g : None ≡ Some v = sym (ap (λ (o : Option ℕ). o >>= (λ k. digits_from 10 ((0 * 10 + m) * 10 + k) cs)) e) ∙ f in cc

-- decimal digits say their number as a word too
pub decimal_said : (v : ℕ) (word : List ℕ) → digits_said 10 word ≡ Some v → prefixed_said word ≡ Some v
decimal_said v word is = cond-false (has_prefix word) (digits_said 16 (drop 2 word)) (digits_said 10 word) (no_prefix v word is) ∙ is

-- what is printed of a number reads as it
pub decimal_reads : (n : ℕ) → n < 2 ^ 64 → number_said (decimal n) ≡ Some n
decimal_reads n fits =
    let p = printed_digits 10 n (omega arith) (omega arith) (omega (arith, fits)) in
    ends_plain 10 n (decimal n) p.front (omega arith) (omega arith) p.ends ∙ decimal_said n (decimal n) p.said

pub decimal_digits : (n : ℕ) → n < 2 ^ 64 → digits_said 10 (decimal n) ≡ Some n
decimal_digits n fits = (printed_digits 10 n (omega arith) (omega arith) (omega (arith, fits))).said

pub hexadecimal_reads : (n : ℕ) → n < 2 ^ 64 → number_said (hexadecimal n) ≡ Some n
hexadecimal_reads n fits =
    let p = printed_digits 16 n (omega arith) (omega arith) (omega (arith, fits)) in
    ends_plain 16 n (hexadecimal n) (codes "0x" ++ p.front) (omega arith) (omega arith) (ap (λ ds. codes "0x" ++ ds) p.ends ∙ sym (append_assoc (codes "0x") p.front (digit_glyph false (n % 16) ∷ []))) ∙ p.said

-- ---- numbers with a suffix
suffixed : (n suffix unit : ℕ) → n < 2 ^ 64 → (suffix == 104) ≡ false → unit_of suffix ≡ Some unit → number_said (decimal n ++ suffix ∷ []) ≡ Some (n * unit)
unfolding number_said
suffixed n suffix unit fits plain is =
    let word : List ℕ = decimal n ++ suffix ∷ [] in
    let last : last_character word ≡ suffix = last_push (decimal n) suffix in
    cond-false (last_character word == 104) (digits_said 16 (without_last word)) (scaled_said word (unit_of (last_character word))) (ap (λ c. c == 104) last ∙ plain)
    ∙ ap (scaled_said word) (ap unit_of last ∙ is)
    ∙ ap (λ w. option_map (λ m. m * unit) (prefixed_said w)) (front_push (decimal n) suffix)
    ∙ ap (option_map (λ m. m * unit)) (decimal_said n (decimal n) (decimal_digits n fits))

scaled_reads : (n suffix unit : ℕ) → n < 2 ^ 64 → is_scaled unit n ≡ true → (suffix == 104) ≡ false → unit_of suffix ≡ Some unit → number_said (decimal (n / unit) ++ suffix ∷ []) ≡ Some n
scaled_reads n suffix unit fits scaled plain is =
    let p = and_parts ((n % unit == 0) && nat_le 1 (n / unit)) (nat_le (n / unit) 1023) scaled in
    let q = and_parts (n % unit == 0) (nat_le 1 (n / unit)) p.0 in
    let small : n / unit < 2 ^ 64 = omega (arith, leb-true (n / unit) 1023 p.1) in
    suffixed (n / unit) suffix unit small plain is ∙ ap Some (omega (arith, div-add-mod' n unit, eqb-true (n % unit) 0 q.0))

pub size_reads : (n : ℕ) → n < 2 ^ 64 → number_said (size_text n) ≡ Some n
unfolding size_text
size_reads n fits = elim (cases_Bool (nat_lt n 10)) [
  | inl e ↦ rw e (decimal_reads n fits)
  | inr a ↦ elim (cases_Bool (is_scaled (2 ^ 50) n)) [
    | inl e ↦ rw (a, e) (scaled_reads n 80 (2 ^ 50) fits e refl refl)
    | inr b ↦ elim (cases_Bool (is_scaled (2 ^ 40) n)) [
      | inl e ↦ rw (a, b, e) (scaled_reads n 84 (2 ^ 40) fits e refl refl)
      | inr d ↦ elim (cases_Bool (is_scaled (2 ^ 30) n)) [
        | inl e ↦ rw (a, b, d, e) (scaled_reads n 71 (2 ^ 30) fits e refl refl)
        | inr f ↦ elim (cases_Bool (is_scaled (2 ^ 20) n)) [
          | inl e ↦ rw (a, b, d, f, e) (scaled_reads n 77 (2 ^ 20) fits e refl refl)
          | inr g ↦ elim (cases_Bool (is_scaled (2 ^ 10) n)) [
            | inl e ↦ rw (a, b, d, f, g, e) (scaled_reads n 75 (2 ^ 10) fits e refl refl)
            | inr h ↦ rw (a, b, d, f, g, h) (hexadecimal_reads n fits)
          ]
        ]
      ]
    ]
  ]
]
