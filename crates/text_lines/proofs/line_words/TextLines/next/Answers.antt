use Rattle.std.proofs.Common.{sym, ◌∙◌}
use Rattle.text_lines.proofs.AheadLaws.{no_line}
use Rattle.text_lines.proofs.line_words.TextLines.next.Goals as goal

pub returns-then-is_done : goal.returns-then-is_done
returns-then-is_done c =
    let done = sym c.is_done.ensures ∙ c.if-is_done.true in
    no_line c.first_line-words.result.0 c.first_line-words.result.1 c.first_line-words.result.2.now c.args.self.now done (c.first_line-words.ensures.done done) (c.first_line-words.ensures.ahead ∙ c.self.view_is)
