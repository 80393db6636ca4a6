-- The lines that are still to come of a text.
use Rattle.std.proofs.Common.{◌≡◌, ℕ, true, List, [], None, refl, sym, ap, ◌∙◌}
use Rattle.text_lines.specs.Unread.{Ahead, IsNextLine, UnreadWords, ahead_from, ahead_with, is_done, next_line, unread_lines}
use Rattle.text_lines.specs.Words.{lines_in, words_in}

-- a line without words comes before nothing
pub nothing_ahead : (u : UnreadWords) (a : Ahead) → u.words ≡ words_in [] → ahead_with u a ≡ a
unfolding words_in
nothing_ahead u a none = rw none refl

no_words : (u : UnreadWords) (a : Ahead) → is_done u ≡ true → ahead_with u a ≡ a
no_words u a done = rw done refl

pub no_line : (u : UnreadWords) (n : ℕ) (rest : List ℕ) (old : Ahead) → is_done u ≡ true → rest ≡ [] → ahead_with u (ahead_from n rest) ≡ old → IsNextLine old (ahead_from n rest) None
unfolding lines_in
no_line u n rest old done none is =
    let same : ahead_from n rest ≡ old = sym (no_words u (ahead_from n rest) done) ∙ is in
    let lines : unread_lines n (lines_in rest) ≡ [] = ap (λ text. unread_lines n (lines_in text)) none in
    (sym (ap (λ (a : Ahead). a.lines) same) ∙ lines, lines, ap (λ (a : Ahead). a.end) same)

pub no_next : (u : UnreadWords) (n : ℕ) (rest : List ℕ) (old : Ahead) → is_done u ≡ true → rest ≡ [] → ahead_with u (ahead_from n rest) ≡ old → None ≡ next_line old
no_next u n rest old done none is = let p = no_line u n rest old done none is in rw p.0 refl
