-- A printed text has the lines and the words that were printed.
use Rattle.std.proofs.Common.{◌≡◌, ℕ, ◌+◌, Bool, true, false, nat_lt, List, [], ◌∷◌, ◌++◌, map, refl, ap, ◌∙◌, arith, append_assoc}
use Rattle.std.proofs.lemmas.{Bool.and_from, Bool.and_parts, Bool.lt-ltb, Bool.ltb-true, Bool.ne_eqb, List.Folds.list_all-append}
use Rattle.std.specs.List.{AllByRecursion, flat_map, list_all}
use Rattle.text_lines.{proofs.WordLaws.plain_step, specs.Characters.IsTextWord, specs.Characters.is_plain, specs.Characters.is_printed, specs.Texts.IsWordLine, specs.Texts.words_of_lines}
use Rattle.text_lines.specs.Unread.{UnreadWords, is_done, line_at, unread_lines, with_line}
use Rattle.text_lines.specs.Words.{without_return, goes_on, line_text, lines_in, put_front, put_in_line, spaced, words_in}

-- ---- words of a line
printed_plain : (c : ℕ) → is_printed c ≡ true → is_plain c ≡ true
printed_plain c printed =
    let h = ltb-true 35 c printed in
    rw (ne_eqb c 32 (λ e. omega (arith, h, e)), ne_eqb c 9 (λ e. omega (arith, h, e)), ne_eqb c 35 (λ e. omega (arith, h, e))) refl

-- a word before what goes on no word
pub word_then : (word rest : List ℕ) → IsTextWord word → goes_on rest ≡ false → words_in (word ++ rest) ≡ word ∷ words_in rest
word_then [] rest is stop = absurd (omega (arith, is.1))
word_then (b ∷ []) rest is stop =
    let p = and_parts (is_printed b) true is.0 in
    plain_step b rest (printed_plain b p.0) ∙ ap (λ test. put_front b test (words_in rest)) stop
word_then (b ∷ c ∷ cs) rest is stop =
    let p = and_parts (is_printed b) (list_all is_printed (c ∷ cs)) is.0 in
    let q = and_parts (is_printed c) (list_all is_printed cs) p.1 in
    plain_step b (c ∷ (cs ++ rest)) (printed_plain b p.0) ∙ ap (λ test. put_front b test (words_in (c ∷ (cs ++ rest)))) (printed_plain c q.0)
    ∙ ap (put_front b true) (word_then (c ∷ cs) rest (p.1, omega arith) stop)

spaces_stop : (words : List (List ℕ)) → goes_on (flat_map spaced words) ≡ false
spaces_stop [] = refl
spaces_stop (word ∷ words) = refl

spaced_words : (words : List (List ℕ)) → AllByRecursion IsTextWord words → words_in (flat_map spaced words) ≡ words
unfolding words_in
spaced_words [] each = refl
spaced_words (word ∷ words) each = word_then word (flat_map spaced words) each.0 (spaces_stop words) ∙ ap (λ ws. word ∷ ws) (spaced_words words each.1)

-- a line without its line feed
abbrev front : List (List ℕ) → List ℕ
front [] = []
front (word ∷ words) = word ++ flat_map spaced words

front_words : (words : List (List ℕ)) → AllByRecursion IsTextWord words → words_in (front words) ≡ words
unfolding words_in
front_words [] each = refl
front_words (word ∷ words) each = word_then word (flat_map spaced words) each.0 (spaces_stop words) ∙ ap (λ ws. word ∷ ws) (spaced_words words each.1)

text_front : (words : List (List ℕ)) → line_text words ≡ front words ++ 10 ∷ []
unfolding line_text
text_front [] = refl
text_front (word ∷ words) = refl

-- ---- no character of it ends a line
abbrev is_inner : ℕ → Bool
is_inner c = nat_lt 31 c

word_inner : (word : List ℕ) → list_all is_printed word ≡ true → list_all is_inner word ≡ true
word_inner [] all = refl
word_inner (c ∷ cs) all =
    let p = and_parts (is_printed c) (list_all is_printed cs) all in
    let h = ltb-true 35 c p.0 in
    and_from (is_inner c) (list_all is_inner cs) (lt-ltb 31 c (omega (arith, h))) (word_inner cs p.1)

spaced_inner : (words : List (List ℕ)) → AllByRecursion IsTextWord words → list_all is_inner (flat_map spaced words) ≡ true
spaced_inner [] each = refl
spaced_inner (word ∷ words) each = list_all-append is_inner word (flat_map spaced words) ∙ and_from (list_all is_inner word) (list_all is_inner (flat_map spaced words)) (word_inner word each.0.0) (spaced_inner words each.1)

front_inner : (words : List (List ℕ)) → AllByRecursion IsTextWord words → list_all is_inner (front words) ≡ true
front_inner [] each = refl
front_inner (word ∷ words) each = list_all-append is_inner word (flat_map spaced words) ∙ and_from (list_all is_inner word) (list_all is_inner (flat_map spaced words)) (word_inner word each.0.0) (spaced_inner words each.1)

ended_inner : (line : List ℕ) → list_all is_inner line ≡ true → without_return line ≡ line
ended_inner [] all = refl
ended_inner (b ∷ []) all =
    let h = ltb-true 31 b (and_parts (is_inner b) true all).0 in
    rw (ne_eqb b 13 (λ e. omega (arith, h, e))) refl
ended_inner (b ∷ c ∷ cs) all = ap (λ line. b ∷ line) (ended_inner (c ∷ cs) (and_parts (is_inner b) (list_all is_inner (c ∷ cs)) all).1)

line_then : (line rest : List ℕ) → list_all is_inner line ≡ true → lines_in (line ++ 10 ∷ rest) ≡ line ∷ lines_in rest
unfolding lines_in
line_then [] rest all = refl
line_then (b ∷ bytes) rest all =
    let p = and_parts (is_inner b) (list_all is_inner bytes) all in
    let h = ltb-true 31 b p.0 in
    rw (ne_eqb b 10 (λ e. omega (arith, h, e))) (ap (put_in_line b) (line_then bytes rest p.1))

-- ---- whole texts
printed_lines : (lines : List (List (List ℕ))) → AllByRecursion IsWordLine lines → lines_in (flat_map line_text lines) ≡ map front lines
unfolding lines_in
printed_lines [] each = refl
printed_lines (words ∷ lines) each =
    ap (λ text. lines_in (text ++ flat_map line_text lines)) (text_front words)
    ∙ ap lines_in (append_assoc (front words) (10 ∷ []) (flat_map line_text lines))
    ∙ line_then (front words) (flat_map line_text lines) (front_inner words each.0.each)
    ∙ ap (λ rest. front words ∷ rest) (printed_lines lines each.1)

line_words : (n : ℕ) (words : List (List ℕ)) → AllByRecursion IsTextWord words → line_at n (front words) ≡ record { line = n; word = 1; words = words }
line_words n words each = ap (λ ws. record { line = n; word = 1; words = ws }) (ap words_in (ended_inner (front words) (front_inner words each)) ∙ front_words words each)

unread_printed : (n : ℕ) (lines : List (List (List ℕ))) → AllByRecursion IsWordLine lines → map (λ (u : UnreadWords). u.words) (unread_lines n (map front lines)) ≡ lines
unread_printed n [] each = refl
unread_printed n ([] ∷ lines) each = let some = each.0.some in absurd (omega (arith, some))
unread_printed n ((word ∷ words) ∷ lines) each =
    ap (λ (u : UnreadWords). map (λ (v : UnreadWords). v.words) (with_line u (is_done u) (unread_lines (n + 1) (map front lines)))) (line_words n (word ∷ words) each.0.each)
    ∙ ap (λ rest. (word ∷ words) ∷ rest) (unread_printed (n + 1) lines each.1)

pub text_parts : (lines : List (List (List ℕ))) → AllByRecursion IsWordLine lines → words_of_lines (flat_map line_text lines) ≡ lines
text_parts lines each = ap (λ ls. map (λ (u : UnreadWords). u.words) (unread_lines 1 ls)) (printed_lines lines each) ∙ unread_printed 1 lines each
