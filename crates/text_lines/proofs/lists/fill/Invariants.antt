use Rattle.std.proofs.Common.{◌≡◌, length}
use Rattle.text_lines.specs.Fields.{list_behind, list_ahead}
use Rattle.text_lines.proofs.lists.fill.Given as goal

abbrev pub invariant-loop-words : goal.invariant-loop-words
invariant-loop-words g l = list_behind l.items (list_ahead g.T.Item.read l.left l.words) ≡ list_behind l.fn.items (list_ahead g.T.Item.read l.most l.fn.words)

abbrev pub decreases-loop-words : goal.decreases-loop-words
decreases-loop-words g l = length l.words.words
