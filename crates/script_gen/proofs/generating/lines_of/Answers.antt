use Rattle.std.proofs.Common.{sym, ◌∙◌}
use Rattle.script_gen.proofs.Made.{lines_made}
use Rattle.script_gen.proofs.generating.lines_of.Goals as goal

pub returns : goal.returns
returns c =
    c.from_vec.ensures ∙ rw (c.in_ok-lines.ensures.items, c.new-draws.ensures) at c.in_ok-append_rounds.ensures ∙ sym (lines_made c.args.seed)
