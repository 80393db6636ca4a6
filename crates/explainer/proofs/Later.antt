-- Words and lines that come later, one by one.
use Rattle.std.proofs.Common.{◌≡◌, ℕ, zero, suc, ◌-◌, ◌<◌, List, ap, arith}
use Rattle.script_text.specs.text_lines.specs.Extents.{after}
use Rattle.explainer.specs.Columns.{after_word, lines_later, words_later}

pub words_step : (n : ℕ) (bytes : List ℕ) → 0 < n → words_later n bytes ≡ words_later (n - 1) (after_word bytes)
words_step zero bytes some = absurd (omega (arith, some))
words_step (suc n) bytes some = let less : n ≡ suc n - 1 = omega arith in ap (λ m. words_later m (after_word bytes)) less

pub lines_step : (n : ℕ) (text : List ℕ) → 0 < n → lines_later n text ≡ lines_later (n - 1) (after 10 text)
lines_step zero text some = absurd (omega (arith, some))
lines_step (suc n) text some = let less : n ≡ suc n - 1 = omega arith in ap (λ m. lines_later m (after 10 text)) less
