-- How a line is parted into words and a text into lines.
use Rattle.std.proofs.Common.{◌≡◌, ℕ, suc, ◌+◌, ◌-◌, ◌<◌, Bool, true, false, not, ◌&&◌, ◌||◌, ◌==◌, List, [], ◌∷◌, length, take, drop, slice_index, refl, sym, ap, ◌∙◌, subst, arith, inl, inr}
use Rattle.std.proofs.lemmas.Bool.{cases_Bool, eqb-true, eq-eqb, ne_eqb}
use Rattle.text_lines.specs.Characters.{is_gap, is_hash, is_plain, is_other, passed_from}
use Rattle.text_lines.specs.Words.{ahead, goes_on, put_front, words_in, without_return, put_in_line, lines_in}

-- counting from one more
pub front_shift : (test : ℕ → Bool) (k : ℕ) (cs : List ℕ) → passed_from test (k + 1) cs ≡ passed_from test k cs + 1
front_shift test k [] = refl
front_shift test k (c ∷ cs) = elim (cases_Bool (test c)) [
  | inl e ↦ rw e (front_shift test (k + 1) cs)
  | inr e ↦ rw e refl
]

-- one character more
pub front_more : (test : ℕ → Bool) (c : ℕ) (cs : List ℕ) → test c ≡ true → passed_from test 0 (c ∷ cs) ≡ suc (passed_from test 0 cs)
front_more test c cs passes = let e : passed_from test (0 + 1) cs ≡ suc (passed_from test 0 cs) = front_shift test 0 cs ∙ omega arith in rw passes e

pub front_none : (test : ℕ → Bool) (c : ℕ) (cs : List ℕ) → test c ≡ false → passed_from test 0 (c ∷ cs) ≡ 0
front_none test c cs fails = rw fails refl

gap_by : (a b c : Bool) (n : ℕ) → (n == 32) ≡ a → (n == 9) ≡ b → (n == 35) ≡ c → (a || b) ≡ true → c ≡ false
gap_by a b false n p q r is = refl
gap_by true b true n p q r is = let e = eqb-true n 32 p in let f = eqb-true n 35 r in absurd (omega (arith, e, f))
gap_by false true true n p q r is = let e = eqb-true n 9 q in let f = eqb-true n 35 r in absurd (omega (arith, e, f))
gap_by false false true n p q r is = cc

-- a space or a tab begins no comment
gap_no_hash : (c : ℕ) → is_gap c ≡ true → is_hash c ≡ false
gap_no_hash c gap = gap_by (c == 32) (c == 9) (c == 35) c refl refl refl gap

-- what is plain is neither a gap nor a hash, and the other way round
plain_parts : (gap hash : Bool) → (not gap && not hash) ≡ true → (gap ≡ false) × (hash ≡ false)
plain_parts false false is = (refl, refl)
plain_parts false true is = cc
plain_parts true hash is = cc

-- ---- words

-- gaps in front count for nothing
pub skip_gaps : (bytes : List ℕ) → words_in (drop (passed_from is_gap 0 bytes) bytes) ≡ words_in bytes
unfolding words_in
skip_gaps [] = refl
skip_gaps (c ∷ cs) = elim (cases_Bool (is_gap c)) [
  | inl e ↦ ap (λ n. words_in (drop n (c ∷ cs))) (front_more is_gap c cs e) ∙ skip_gaps cs ∙ sym (rw (gap_no_hash c e, e) refl)
  | inr e ↦ ap (λ n. words_in (drop n (c ∷ cs))) (front_none is_gap c cs e)
]

-- the word that a plain character begins, and what is behind it
pub plain_step : (b : ℕ) (bytes : List ℕ) → is_plain b ≡ true → words_in (b ∷ bytes) ≡ put_front b (goes_on bytes) (words_in bytes)
unfolding words_in
plain_step b bytes plain = let p = plain_parts (is_gap b) (is_hash b) plain in rw (p.1, p.0) refl

pub one_word : (b : ℕ) (bytes : List ℕ) → is_plain b ≡ true → words_in (b ∷ bytes) ≡ (b ∷ take (passed_from is_plain 0 bytes) bytes) ∷ words_in (drop (passed_from is_plain 0 bytes) bytes)
unfolding words_in
one_word b [] plain = plain_step b [] plain
one_word b (c ∷ cs) plain = elim (cases_Bool (is_plain c)) [
  | inl e ↦ plain_step b (c ∷ cs) plain
      ∙ ap (λ test. put_front b test (words_in (c ∷ cs))) e
      ∙ ap (put_front b true) (one_word c cs e)
      ∙ ap (λ n. (b ∷ take n (c ∷ cs)) ∷ words_in (drop n (c ∷ cs))) (sym (front_more is_plain c cs e))
  | inr e ↦ plain_step b (c ∷ cs) plain
      ∙ ap (λ test. put_front b test (words_in (c ∷ cs))) e
      ∙ ap (λ n. (b ∷ take n (c ∷ cs)) ∷ words_in (drop n (c ∷ cs))) (sym (front_none is_plain c cs e))
]

-- the front of a word and what is behind it
pub record Front (bytes : List ℕ) (n : ℕ) : Type 0 where
  pub words : ahead (take n bytes) (words_in (drop n bytes)) ≡ words_in bytes
  pub last : take n bytes ≡ [] → words_in (drop n bytes) ≡ []

-- bytes that begin with no gap begin with a word or a comment, or they end
cut_front : (bytes : List ℕ) → passed_from is_gap 0 bytes ≡ 0 → Front bytes (passed_from is_plain 0 bytes)
unfolding words_in
cut_front [] none = record { words = refl; last = λ e. refl }
cut_front (c ∷ cs) none = elim (cases_Bool (is_gap c)) [
  | inl e ↦ absurd (omega (arith, sym (front_more is_gap c cs e) ∙ none))
  | inr e ↦ elim (cases_Bool (is_hash c)) [
    | inl f ↦
        let stop : is_plain c ≡ false = rw (e, f) refl in
        subst (Front (c ∷ cs)) (sym (front_none is_plain c cs stop)) (record { words = refl; last = λ z. rw f refl })
    | inr f ↦
        let goes : is_plain c ≡ true = rw (e, f) refl in
        subst (Front (c ∷ cs)) (sym (front_more is_plain c cs goes)) (record { words = sym (one_word c cs goes); last = λ z. cc })
  ]
]

-- behind the gaps no gap stands
no_gap : (bytes : List ℕ) → passed_from is_gap 0 (drop (passed_from is_gap 0 bytes) bytes) ≡ 0
no_gap [] = refl
no_gap (c ∷ cs) = elim (cases_Bool (is_gap c)) [
  | inl e ↦ ap (λ n. passed_from is_gap 0 (drop n (c ∷ cs))) (front_more is_gap c cs e) ∙ no_gap cs
  | inr e ↦ ap (λ n. passed_from is_gap 0 (drop n (c ∷ cs))) (front_none is_gap c cs e) ∙ front_none is_gap c cs e
]

pub cut_whole : (bytes : List ℕ) → Front (drop (passed_from is_gap 0 bytes) bytes) (passed_from is_plain 0 (drop (passed_from is_gap 0 bytes) bytes))
cut_whole bytes = cut_front (drop (passed_from is_gap 0 bytes) bytes) (no_gap bytes)

-- ---- lines

pub record CutLine (text : List ℕ) (n : ℕ) : Type 0 where
  pub whole : n ≡ length text → lines_in text ≡ take n text ∷ []
  pub parted : n < length text → lines_in text ≡ take n text ∷ lines_in (drop (suc n) text)

line_feed : (c : ℕ) (cs : List ℕ) → (c == 10) ≡ true → CutLine (c ∷ cs) (passed_from (is_other 10) 0 (c ∷ cs))
unfolding lines_in
line_feed c cs e = subst (CutLine (c ∷ cs)) (sym (front_none (is_other 10) c cs (ap not e))) (record { whole = λ all. absurd (omega (arith, all)); parted = λ less. rw e refl })

-- a character that is no line feed is part of the line behind it
line_more : (c : ℕ) (cs : List ℕ) (n : ℕ) → (c == 10) ≡ false → (cs ≡ [] → n ≡ 0) → (0 < length cs → CutLine cs n) → CutLine (c ∷ cs) (suc n)
unfolding lines_in
line_more c [] n e none rest = record { whole = λ all. let z = none refl in rw (e, z) refl; parted = λ less. absurd (omega (arith, less)) }
line_more c (d ∷ ds) n e none rest =
    let r = rest (omega arith) in
    record {
      whole = λ all. rw e (ap (put_in_line c) (r.whole (omega (arith, all))));
      parted = λ less. rw e (ap (put_in_line c) (r.parted (omega (arith, less))));
    }

-- the first line goes up to the first line feed
pub first_line_is : (text : List ℕ) → 0 < length text → CutLine text (passed_from (is_other 10) 0 text)
first_line_is [] some = absurd (omega (arith, some))
first_line_is (c ∷ cs) some = elim (cases_Bool (c == 10)) [
  | inl e ↦ line_feed c cs e
  | inr e ↦ subst (CutLine (c ∷ cs)) (sym (front_more (is_other 10) c cs (ap not e)))
      (line_more c cs (passed_from (is_other 10) 0 cs) e (λ z. ap (passed_from (is_other 10) 0) z) (first_line_is cs))
]

-- a line without the carriage return at its end
return_at : (b : ℕ) (bytes : List ℕ) → slice_index (b ∷ bytes) (length bytes) ≡ 13 → without_return (b ∷ bytes) ≡ take (length bytes) (b ∷ bytes)
return_at b [] last = rw (eq-eqb b 13 last) refl
return_at b (c ∷ cs) last = ap (λ line. b ∷ line) (return_at c cs last)

other_at : (b : ℕ) (bytes : List ℕ) → (slice_index (b ∷ bytes) (length bytes) ≡ 13 → ⊥) → without_return (b ∷ bytes) ≡ b ∷ bytes
other_at b [] last = rw (ne_eqb b 13 last) refl
other_at b (c ∷ cs) last = ap (λ line. b ∷ line) (other_at c cs last)

last_place : (b : ℕ) (bytes : List ℕ) → length (b ∷ bytes) - 1 ≡ length bytes
last_place b bytes = omega arith

pub ended_return : (line : List ℕ) → 0 < length line → slice_index line (length line - 1) ≡ 13 → take (length line - 1) line ≡ without_return line
ended_return [] some last = absurd (omega (arith, some))
ended_return (b ∷ bytes) some last =
    let e = last_place b bytes in
    ap (λ n. take n (b ∷ bytes)) e ∙ sym (return_at b bytes (sym (ap (slice_index (b ∷ bytes)) e) ∙ last))

pub ended_other : (line : List ℕ) → (slice_index line (length line - 1) ≡ 13 → ⊥) → line ≡ without_return line
ended_other [] last = refl
ended_other (b ∷ bytes) last =
    let e = last_place b bytes in
    sym (other_at b bytes (λ is. last (ap (slice_index (b ∷ bytes)) e ∙ is)))

pub lines_none : (text : List ℕ) → length text ≡ 0 → lines_in text ≡ []
unfolding lines_in
lines_none [] e = refl
lines_none (c ∷ cs) e = absurd (omega (arith, e))

-- a whole line, and the lines behind its line feed
pub line_cut : (text : List ℕ) (n : ℕ) → n ≡ passed_from (is_other 10) 0 text → 0 < length text → CutLine text n
line_cut text n is some = subst (CutLine text) (sym is) (first_line_is text some)
