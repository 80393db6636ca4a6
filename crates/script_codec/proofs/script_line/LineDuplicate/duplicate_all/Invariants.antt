use Rattle.std.proofs.Common.{◌≡◌, take}
use Rattle.script_codec.proofs.script_line.LineDuplicate.duplicate_all.Given as goal

abbrev pub invariant-loop-line : goal.invariant-loop-line
invariant-loop-line l = l.copies.items ≡ take l.line-index l.items
