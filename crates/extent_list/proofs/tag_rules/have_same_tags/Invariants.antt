use Rattle.std.proofs.Common.{take}
use Rattle.extent_list.specs.Sharing.{HaveSameTags}
use Rattle.extent_list.proofs.tag_rules.have_same_tags.Given as goal

abbrev pub invariant-loop-i : goal.invariant-loop-i
invariant-loop-i l = HaveSameTags (take l.i l.owners) (take l.i l.shared)
