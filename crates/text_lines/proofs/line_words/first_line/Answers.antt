use Rattle.std.proofs.Common.{arith, ap, ◌∙◌}
use Rattle.text_lines.{specs.Unread.UnreadWords, specs.Words.words_in, proofs.AheadLaws.nothing_ahead}
use Rattle.text_lines.proofs.line_words.first_line.Goals as goal

pub loop-words-init : goal.loop-words-init
loop-words-init c = record { ahead = nothing_ahead c.of-words.result _ (ap (λ (u : UnreadWords). u.words) c.of-words.ensures ∙ ap words_in c.as_slice.ensures); within = omega arith }
