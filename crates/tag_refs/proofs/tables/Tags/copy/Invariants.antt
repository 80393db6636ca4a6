use Rattle.std.proofs.Common.{◌≡◌, take}
use Rattle.tag_refs.proofs.tables.Tags.copy.Given as goal

abbrev pub invariant-loop-i : goal.invariant-loop-i
invariant-loop-i l = l.copy.entries ≡ take l.i l.self.entries
