-- What reading a part answers is what the words say, and the other way round.
use Rattle.std.proofs.Common.{◌≡◌, ℕ, ◌<◌, ◌≤◌, Bool, true, false, cond, ◌==◌, nat_le, List, [], ◌∷◌, ◌++◌, length, Option, Some, None, Result, Ok, Err, refl, sym, ap, ◌∙◌, subst, inl, inr, arith}
use lib.Pointwise.{pointwise, bytes_decides}
use Rattle.std.proofs.lemmas.Bool.{cases_Bool, cond-false, cond-true, le-leb, leb-true}
use Rattle.text_lines.specs.{Chains.◌>>!◌ as ◌>>=◌, Keywords.keyword_text, Numbers.limited, Numbers.number_said, Parts.Form, Parts.Part, Parts.ReadsPart, Parts.SaysNumber, Parts.Takes, Parts.key}
use Rattle.text_lines.specs.{Unread.UnreadWords, Unread.behind_next, Unread.behind_first, Unread.leading_word, Unread.is_done, Unread.first_unread, Unread.none_left, declared.faults.Cause.Cause}
use Rattle.text_lines.specs.declared.{faults.TextFault.TextFault, faults.Wanted.Wanted, keywords.Keyword.Keyword, word_faults.NumberFault.NumberFault}
use Rattle.text_lines.specs.Fields.{begins, flag_ahead, end_ahead, keyword_ahead, may_ahead, named_ahead, number_ahead, number_of_word, number_or, one_word, refused, told}

-- ---- one step after another
-- What was read, and the words behind it.
pub record Goes {A : Type 0} (read : Result (A × UnreadWords) TextFault) (x : A) (rest : List (List ℕ)) : Type 0 where
  pub left : UnreadWords
  pub is : read ≡ Ok (x, left)
  pub words : left.words ≡ rest

pub goes_then : {A B : Type 0} {read : Result (A × UnreadWords) TextFault} {x : A} {mid : List (List ℕ)} (next : A × UnreadWords → Result (B × UnreadWords) TextFault) (y : B) (rest : List (List ℕ))
    → Goes read x mid → ((left : UnreadWords) → left.words ≡ mid → Goes (next (x, left)) y rest) → Goes (read >>= next) y rest
goes_then {A} {B} {read} {x} {mid} next y rest g f =
    let h = f g.left g.words in
    record { left = h.left; is = ap (λ r. r >>= next) g.is ∙ h.is; words = h.words }

pub record Bound {A B : Type 0} (first : Result A TextFault) (next : A → Result B TextFault) (y : B) : Type 0 where
  pub value : A
  pub begun : first ≡ Ok value
  pub done : next value ≡ Ok y

pub bound : {A B : Type 0} (first : Result A TextFault) (next : A → Result B TextFault) (y : B) → (first >>= next) ≡ Ok y → Bound first next y
bound (Ok x) next y is = record { value = x; begun = refl; done = is }
bound (Err fault) next y is = cc

pub ok_is : {A : Type 0} (x y : A) → ◌≡◌ {A = Result A TextFault} (Ok x) (Ok y) → x ≡ y
ok_is x y e = cc

-- The words are the parts, and then the rest.
pub record Took (words : List (List ℕ)) (parts : List Part) (rest : List (List ℕ)) : Type 0 where
  pub all : Takes words parts rest

takes_on : (words mid rest : List (List ℕ)) (ps qs : List Part) → Takes words ps mid → Takes mid qs rest → Takes words (ps ++ qs) rest
takes_on words mid rest [] qs a b = subst (λ ws. Takes ws qs rest) (sym a) b
takes_on words mid rest (p ∷ ps) qs a b = (a.0, a.1, a.2, a.3, takes_on a.1 mid rest ps qs a.4 b)

pub took_then : {words mid rest : List (List ℕ)} {ps qs : List Part} → Took words ps mid → Took mid qs rest → Took words (ps ++ qs) rest
took_then {words} {mid} {rest} {ps} {qs} a b = record { all = takes_on words mid rest ps qs a.all b.all }

pub took_one : (words front rest : List (List ℕ)) (part : Part) → words ≡ front ++ rest → ReadsPart front part → Took words (part ∷ []) rest
took_one words front rest part is reads = record { all = (front, rest, is, reads, refl) }

-- ---- one word
goes_word : {A : Type 0} (wanted : Wanted) (u : UnreadWords) (read : Result A Cause) (x : A) (w : List ℕ) (rest : List (List ℕ)) → u.words ≡ w ∷ rest → read ≡ Ok x → Goes (one_word wanted u read) x rest
goes_word wanted u read x w rest is said = record {
  left = behind_next u;
  is = cond-false (is_done u) (Err (refused u (Cause.Wanted wanted))) (told u read) (ap none_left is) ∙ ap (told u) said;
  words = ap (λ ws. (behind_first u.line u.word ws).words) is;
}

pub one_goes : {A : Type 0} (wanted : Wanted) (u : UnreadWords) (f : List ℕ → Result A Cause) (x : A) (w : List ℕ) (rest : List (List ℕ)) → u.words ≡ w ∷ rest → f w ≡ Ok x → Goes (one_word wanted u (f (first_unread u))) x rest
one_goes wanted u f x w rest is said = goes_word wanted u (f (first_unread u)) x w rest is (ap (λ ws. f (leading_word ws)) is ∙ said)

first_and_rest : (line word : ℕ) (words : List (List ℕ)) → none_left words ≡ false → words ≡ leading_word words ∷ (behind_first line word words).words
first_and_rest line word [] some = cc
first_and_rest line word (w ∷ ws) some = refl

-- the word that was read, and what is behind it
pub record OneRead {A : Type 0} (u : UnreadWords) (read : Result A Cause) (x : A × UnreadWords) : Type 0 where
  pub said : read ≡ Ok x.0
  pub words : u.words ≡ first_unread u ∷ x.1.words

told_sound : {A : Type 0} (u : UnreadWords) (read : Result A Cause) (x : A × UnreadWords) → is_done u ≡ false → told u read ≡ Ok x → OneRead u read x
told_sound {A} u (Ok y) x some is =
    let e : (y, behind_next u) ≡ x = ok_is (y, behind_next u) x is in
    record { said = ap (λ (p : A × UnreadWords). Ok p.0) e; words = first_and_rest u.line u.word u.words some ∙ ap (λ (p : A × UnreadWords). first_unread u ∷ p.1.words) e }
told_sound u (Err cause) x some is = cc

pub one_sound : {A : Type 0} (wanted : Wanted) (u : UnreadWords) (read : Result A Cause) (x : A × UnreadWords) → one_word wanted u read ≡ Ok x → OneRead u read x
one_sound wanted u read x is = elim (cases_Bool (is_done u)) [
  | inl e ↦ let f : Err (refused u (Cause.Wanted wanted)) ≡ Ok x = sym (cond-true (is_done u) (Err (refused u (Cause.Wanted wanted))) (told u read) e) ∙ is in cc
  | inr e ↦ told_sound u read x e (sym (cond-false (is_done u) (Err (refused u (Cause.Wanted wanted))) (told u read) e) ∙ is)
]

-- ---- keywords
-- the next word is not this one
abbrev pub IsNot : Keyword → List (List ℕ) → Type 0
IsNot k words = pointwise ◌==◌ (leading_word words) (keyword_text k) ≡ false

own_word : (word : List ℕ) → pointwise ◌==◌ word word ≡ true
own_word word = (bytes_decides word word).1 refl

pub begins_with : (k : Keyword) (u : UnreadWords) (rest : List (List ℕ)) → u.words ≡ keyword_text k ∷ rest → begins k u ≡ true
begins_with k u rest is = ap (λ ws. pointwise ◌==◌ (leading_word ws) (keyword_text k)) is ∙ own_word (keyword_text k)

pub begins_not : (k : Keyword) (u : UnreadWords) (rest : List (List ℕ)) → u.words ≡ rest → IsNot k rest → begins k u ≡ false
begins_not k u rest is other = ap (λ ws. pointwise ◌==◌ (leading_word ws) (keyword_text k)) is ∙ other

pub keyword_goes : (k : Keyword) (u : UnreadWords) (rest : List (List ℕ)) → u.words ≡ keyword_text k ∷ rest → Goes (keyword_ahead k u) tt rest
unfolding keyword_ahead
keyword_goes k u rest is = record {
  left = behind_next u;
  is = cond-true (begins k u) (Ok (tt, behind_next u)) (Err (refused u (Cause.Wanted (Wanted.Keyword k)))) (begins_with k u rest is);
  words = ap (λ ws. (behind_first u.line u.word ws).words) is;
}

some_keyword : (k : Keyword) → 0 < length (keyword_text k)
some_keyword Keyword.Script = omega arith
some_keyword Keyword.Lanes = omega arith
some_keyword Keyword.Region = omega arith
some_keyword Keyword.Length = omega arith
some_keyword Keyword.Block = omega arith
some_keyword Keyword.Sizes = omega arith
some_keyword Keyword.Decode = omega arith
some_keyword Keyword.Handle = omega arith
some_keyword Keyword.Sanitize = omega arith
some_keyword Keyword.Shareable = omega arith
some_keyword Keyword.Host = omega arith
some_keyword Keyword.Bases = omega arith
some_keyword Keyword.MessageTag = omega arith
some_keyword Keyword.Log = omega arith
some_keyword Keyword.All = omega arith
some_keyword Keyword.Handles = omega arith
some_keyword Keyword.First = omega arith
some_keyword Keyword.Count = omega arith
some_keyword Keyword.More = omega arith
some_keyword Keyword.Tag = omega arith
some_keyword Keyword.Policy = omega arith
some_keyword Keyword.Forced = omega arith
some_keyword Keyword.Flags = omega arith

-- a keyword that comes next is the first word
pub begins_words : (k : Keyword) (line word : ℕ) (words : List (List ℕ)) → pointwise ◌==◌ (leading_word words) (keyword_text k) ≡ true → words ≡ keyword_text k ∷ (behind_first line word words).words
begins_words k line word [] is = let e : [] ≡ keyword_text k = (bytes_decides [] (keyword_text k)).0 is in absurd (omega (arith, some_keyword k, ap length e))
begins_words k line word (w ∷ ws) is = ap (λ x. x ∷ ws) ((bytes_decides w (keyword_text k)).0 is)

pub keyword_sound : (k : Keyword) (u : UnreadWords) (x : Unit {0} × UnreadWords) → keyword_ahead k u ≡ Ok x → Took u.words (key k ∷ []) x.1.words
unfolding keyword_ahead
keyword_sound k u x is = elim (cases_Bool (begins k u)) [
  | inl e ↦
      let f : (tt, behind_next u) ≡ x = ok_is (tt, behind_next u) x (sym (cond-true (begins k u) (Ok (tt, behind_next u)) (Err (refused u (Cause.Wanted (Wanted.Keyword k)))) e) ∙ is) in
      took_one u.words (keyword_text k ∷ []) x.1.words (key k) (begins_words k u.line u.word u.words e ∙ ap (λ (p : Unit {0} × UnreadWords). keyword_text k ∷ p.1.words) f) refl
  | inr e ↦ let f : Err (refused u (Cause.Wanted (Wanted.Keyword k))) ≡ Ok x = sym (cond-false (begins k u) (Ok (tt, behind_next u)) (Err (refused u (Cause.Wanted (Wanted.Keyword k)))) e) ∙ is in cc
]

-- ---- flags
pub record FlagGoes (k : Keyword) (u : UnreadWords) (set : Bool) (rest : List (List ℕ)) : Type 0 where
  pub left : UnreadWords
  pub is : flag_ahead k u ≡ (set, left)
  pub words : left.words ≡ rest

pub flag_goes : (k : Keyword) (u : UnreadWords) (set : Bool) (front rest : List (List ℕ)) → u.words ≡ front ++ rest → ReadsPart front (Part.Flag k set) → IsNot k rest → FlagGoes k u set rest
unfolding flag_ahead
flag_goes k u set front rest is (inl absent) other =
    let words : u.words ≡ rest = is ∙ ap (λ ws. ws ++ rest) absent.0 in
    record {
      left = u;
      is = cond-false (begins k u) (true, behind_next u) (false, u) (begins_not k u rest words other) ∙ ap (λ b. (b, u)) (sym absent.1);
      words = words;
    }
flag_goes k u set front rest is (inr present) other =
    let words : u.words ≡ keyword_text k ∷ rest = is ∙ ap (λ ws. ws ++ rest) present.0 in
    record {
      left = behind_next u;
      is = cond-true (begins k u) (true, behind_next u) (false, u) (begins_with k u rest words) ∙ ap (λ b. (b, behind_next u)) (sym present.1);
      words = ap (λ ws. (behind_first u.line u.word ws).words) words;
    }

pub flag_then : {B : Type 0} {k : Keyword} {u : UnreadWords} {set : Bool} {mid : List (List ℕ)} (next : Bool × UnreadWords → Result (B × UnreadWords) TextFault) (y : B) (rest : List (List ℕ))
    → FlagGoes k u set mid → ((left : UnreadWords) → left.words ≡ mid → Goes (next (set, left)) y rest) → Goes (next (flag_ahead k u)) y rest
flag_then {B} {k} {u} {set} {mid} next y rest g f =
    let h = f g.left g.words in record { left = h.left; is = ap next g.is ∙ h.is; words = h.words }

pub flag_sound : (k : Keyword) (u : UnreadWords) → Took u.words (Part.Flag k (flag_ahead k u).0 ∷ []) (flag_ahead k u).1.words
unfolding flag_ahead
flag_sound k u = elim (cases_Bool (begins k u)) [
  | inl e ↦ rw e (took_one u.words (keyword_text k ∷ []) (behind_next u).words (Part.Flag k true) (begins_words k u.line u.word u.words e) (inr (refl, refl)))
  | inr e ↦ rw e (took_one u.words [] u.words (Part.Flag k false) refl (inl (refl, refl)))
]

-- ---- the end
pub end_goes : (u : UnreadWords) → u.words ≡ [] → Goes (end_ahead u) tt []
unfolding end_ahead
end_goes u is = record { left = u; is = cond-true (is_done u) (Ok (tt, u)) (Err (refused u (Cause.Wanted Wanted.End))) (ap none_left is); words = is }

none_is : (words : List (List ℕ)) → none_left words ≡ true → words ≡ []
none_is [] e = refl
none_is (w ∷ ws) e = cc

pub end_sound : (u : UnreadWords) (x : Unit {0} × UnreadWords) → end_ahead u ≡ Ok x → u.words ≡ []
unfolding end_ahead
end_sound u x is = elim (cases_Bool (is_done u)) [
  | inl e ↦ none_is u.words e
  | inr e ↦ let f : Err (refused u (Cause.Wanted Wanted.End)) ≡ Ok x = sym (cond-false (is_done u) (Ok (tt, u)) (Err (refused u (Cause.Wanted Wanted.End))) e) ∙ is in cc
]

-- ---- numbers
pub says_number : (most n : ℕ) (word : List ℕ) → SaysNumber most n word → number_of_word most word ≡ Ok n
says_number most n word says =
    ap (λ o. number_or most (limited most o)) says.said ∙ ap (λ test. number_or most (cond test (Ok n) (Err NumberFault.TooLarge))) (le-leb n most says.room)

limited_says : (most n m : ℕ) (test : Bool) → nat_le m most ≡ test → number_or most (cond test (Ok m) (Err NumberFault.TooLarge)) ≡ Ok n → (m ≡ n) × (m ≤ most)
limited_says most n m true e is = ((cc), leb-true m most e)
limited_says most n m false e is = cc

said_says : (most n : ℕ) (word : List ℕ) (said : Option ℕ) → number_said word ≡ said → number_or most (limited most said) ≡ Ok n → SaysNumber most n word
said_says most n word None e is = cc
said_says most n word (Some m) e is =
    let p = limited_says most n m (nat_le m most) refl is in
    record { said = e ∙ ap Some p.0; room = subst (λ k. k ≤ most) p.0 p.1 }

pub number_says : (most n : ℕ) (word : List ℕ) → number_of_word most word ≡ Ok n → SaysNumber most n word
number_says most n word is = said_says most n word (number_said word) refl is

pub number_goes : (form : Form) (most n : ℕ) (u : UnreadWords) (front rest : List (List ℕ)) → u.words ≡ front ++ rest → ReadsPart front (Part.Number form most n) → Goes (number_ahead most u) n rest
unfolding number_ahead
number_goes form most n u front rest is reads =
    one_goes Wanted.Number u (number_of_word most) n reads.0 rest (is ∙ ap (λ ws. ws ++ rest) reads.1) (says_number most n reads.0 reads.2)

pub number_sound : (form : Form) (most : ℕ) (u : UnreadWords) (x : ℕ × UnreadWords) → number_ahead most u ≡ Ok x → Took u.words (Part.Number form most x.0 ∷ []) x.1.words
unfolding number_ahead
number_sound form most u x is =
    let p = one_sound Wanted.Number u (number_of_word most (first_unread u)) x is in
    took_one u.words (first_unread u ∷ []) x.1.words (Part.Number form most x.0) p.words (first_unread u, refl, number_says most x.0 (first_unread u) p.said)

-- ---- numbers behind keywords
pub may_goes : (k : Keyword) (form : Form) (most n : ℕ) (u : UnreadWords) (front rest : List (List ℕ)) → u.words ≡ front ++ rest → ReadsPart front (Part.May k form most n) → IsNot k rest → Goes (may_ahead k most u) n rest
unfolding may_ahead
may_goes k form most n u front rest is (inl absent) other =
    let words : u.words ≡ rest = is ∙ ap (λ ws. ws ++ rest) absent.0 in
    record {
      left = u;
      is = cond-false (begins k u) (number_ahead most (behind_next u)) (Ok (0, u)) (begins_not k u rest words other) ∙ ap (λ m. Ok (m, u)) (sym absent.1);
      words = words;
    }
may_goes k form most n u front rest is (inr present) other =
    let words : u.words ≡ keyword_text k ∷ (present.0 ∷ rest) = is ∙ ap (λ ws. ws ++ rest) present.1 in
    let g = number_goes form most n (behind_next u) (present.0 ∷ []) rest (ap (λ ws. (behind_first u.line u.word ws).words) words) (present.0, refl, present.2) in
    record { left = g.left; is = cond-true (begins k u) (number_ahead most (behind_next u)) (Ok (0, u)) (begins_with k u (present.0 ∷ rest) words) ∙ g.is; words = g.words }

pub may_sound : (k : Keyword) (form : Form) (most : ℕ) (u : UnreadWords) (x : ℕ × UnreadWords) → may_ahead k most u ≡ Ok x → Took u.words (Part.May k form most x.0 ∷ []) x.1.words
unfolding may_ahead number_ahead
may_sound k form most u x is = elim (cases_Bool (begins k u)) [
  | inl e ↦
      let p = one_sound Wanted.Number (behind_next u) (number_of_word most (first_unread (behind_next u))) x (sym (cond-true (begins k u) (number_ahead most (behind_next u)) (Ok (0, u)) e) ∙ is) in
      took_one u.words (keyword_text k ∷ first_unread (behind_next u) ∷ []) x.1.words (Part.May k form most x.0)
      (begins_words k u.line u.word u.words e ∙ ap (λ ws. keyword_text k ∷ ws) p.words)
      (inr (first_unread (behind_next u), refl, number_says most x.0 (first_unread (behind_next u)) p.said))
  | inr e ↦
      let f : (0, u) ≡ x = ok_is (0, u) x (sym (cond-false (begins k u) (number_ahead most (behind_next u)) (Ok (0, u)) e) ∙ is) in
      subst (λ (y : ℕ × UnreadWords). Took u.words (Part.May k form most y.0 ∷ []) y.1.words) f (took_one u.words [] u.words (Part.May k form most 0) refl (inl (refl, refl)))
]

-- a keyword and a number, as the parts that they are
pub named_goes : (k : Keyword) (form : Form) (most n : ℕ) (u : UnreadWords) (rest : List (List ℕ)) → Takes u.words (key k ∷ Part.Number form most n ∷ []) rest → Goes (named_ahead k most u) n rest
unfolding named_ahead
named_goes k form most n u rest takes =
    goes_then _ n rest (keyword_goes k u takes.1 (takes.2 ∙ ap (λ ws. ws ++ takes.1) takes.3))
    (λ left words. number_goes form most n left takes.4.0 rest (words ∙ takes.4.2 ∙ ap (λ ws. takes.4.0 ++ ws) takes.4.4) takes.4.3)

pub named_sound : (k : Keyword) (form : Form) (most : ℕ) (u : UnreadWords) (x : ℕ × UnreadWords) → named_ahead k most u ≡ Ok x → Took u.words (key k ∷ Part.Number form most x.0 ∷ []) x.1.words
unfolding named_ahead
named_sound k form most u x is =
    let begun = bound (keyword_ahead k u) (λ b. number_ahead most b.1) x is in
    took_then (keyword_sound k u begun.value begun.begun) (number_sound form most begun.value.1 x begun.done)
