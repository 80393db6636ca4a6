use Rattle.std.proofs.Common.{◌≡◌, drop}
use Rattle.script_text.specs.text_lines.specs.Characters.{passed_from, is_plain}
use Rattle.explainer.proofs.columns.plain.Given as goal

abbrev pub invariant-loop-i : goal.invariant-loop-i
invariant-loop-i l = passed_from is_plain l.i (drop l.i l.bytes) ≡ passed_from is_plain 0 l.bytes
