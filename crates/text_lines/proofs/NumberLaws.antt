-- The value of digits that is kept below a bound while they are read.
use Rattle.std.proofs.Common.{◌≡◌, ℕ, ◌+◌, ◌*◌, ◌^◌, ◌<◌, ◌≤◌, List, [], ◌∷◌, length, drop, get_or, Option, Some, None, refl, sym, ap, ◌∙◌, inl, inr, arith}
use Rattle.std.{specs.Option.option_map, proofs.Math.Nat.le-mul_of_pos_right, proofs.lemmas.Bool.cases_lt, proofs.lemmas.List.drop_all, proofs.lemmas.List.drop_more}
use Rattle.text_lines.specs.{Characters.digit_in, WordChains.◌>>?◌ as ◌>>=◌, Numbers.capped_64, Numbers.digits_from}

-- a number above the bound stays above it
above : (base n d : ℕ) → 0 < base → 2 ^ 64 ≤ n → capped_64 (n * base + d) ≡ 2 ^ 64
above base n d some high = omega (arith, le-mul_of_pos_right n some, high)

-- numbers that are the same up to the bound stay so
same_after : (base a b d : ℕ) → 0 < base → capped_64 a ≡ capped_64 b → capped_64 (a * base + d) ≡ capped_64 (b * base + d)
same_after base a b d some same = elim (cases_lt a (2 ^ 64)) [
  | inl low ↦ let e : a ≡ b = omega (arith, low, same) in ap (λ n. capped_64 (n * base + d)) e
  | inr high ↦ let other : 2 ^ 64 ≤ b = omega (arith, high, same) in above base a d some high ∙ sym (above base b d some other)
]

same_step : (digit : Option ℕ) (f g : ℕ → Option ℕ) → ((d : ℕ) → option_map capped_64 (f d) ≡ option_map capped_64 (g d)) → option_map capped_64 (digit >>= f) ≡ option_map capped_64 (digit >>= g)
same_step None f g each = refl
same_step (Some d) f g each = each d

pub same_digits : (base a b : ℕ) (cs : List ℕ) → 0 < base → capped_64 a ≡ capped_64 b → option_map capped_64 (digits_from base a cs) ≡ option_map capped_64 (digits_from base b cs)
unfolding digits_from
same_digits base a b [] some same = ap Some same
same_digits base a b (c ∷ cs) some same =
    same_step (digit_in base c) (λ d. digits_from base (a * base + d) cs) (λ d. digits_from base (b * base + d) cs)
    (λ d. same_digits base (a * base + d) (b * base + d) cs some (same_after base a b d some same))

-- ---- one digit more
pub no_digit : (base n c : ℕ) (cs : List ℕ) → digit_in base c ≡ None → digits_from base n (c ∷ cs) ≡ None
unfolding digits_from
no_digit base n c cs e = rw e refl

pub one_digit : (base n c d : ℕ) (cs : List ℕ) → digit_in base c ≡ Some d → digits_from base n (c ∷ cs) ≡ digits_from base (n * base + d) cs
unfolding digits_from
one_digit base n c d cs e = rw e refl

-- ---- the steps of the loop over digits
pub ends_badly : (base n i : ℕ) (digits : List ℕ) (whole : Option ℕ) → i < length digits → digit_in base (get_or digits i 0) ≡ None → option_map capped_64 (digits_from base n (drop i digits)) ≡ whole → None ≡ whole
ends_badly base n i digits whole under bad is =
    sym (ap (option_map capped_64) (ap (digits_from base n) (drop_more digits i 0 under) ∙ no_digit base n (get_or digits i 0) (drop (i + 1) digits) bad)) ∙ is

pub goes_on : (base n next i d : ℕ) (digits : List ℕ) (whole : Option ℕ) → 0 < base → i < length digits → digit_in base (get_or digits i 0) ≡ Some d → next ≡ capped_64 (n * base + d) → option_map capped_64 (digits_from base n (drop i digits)) ≡ whole → option_map capped_64 (digits_from base next (drop (i + 1) digits)) ≡ whole
goes_on base n next i d digits whole some under good grown is =
    same_digits base next (n * base + d) (drop (i + 1) digits) some (omega (arith, grown))
    ∙ sym (ap (option_map capped_64) (ap (digits_from base n) (drop_more digits i 0 under) ∙ one_digit base n (get_or digits i 0) d (drop (i + 1) digits) good))
    ∙ is

pub ends : (base n i : ℕ) (digits : List ℕ) (whole : Option ℕ) → n ≤ 2 ^ 64 → length digits ≤ i → option_map capped_64 (digits_from base n (drop i digits)) ≡ whole → Some n ≡ whole
unfolding digits_from
ends base n i digits whole small over is =
    let e : n ≡ capped_64 n = omega (arith, small) in
    ap Some e ∙ sym (ap (λ cs. option_map capped_64 (digits_from base n cs)) (drop_all i digits over)) ∙ is
