use Rattle.std.proofs.Common.{◌≡◌, take}
use Rattle.extent_list.specs.ExtentLists.{tags_of}
use Rattle.device_commands.proofs.tags.append_tags_of.Given as goal

-- The tags so far.
abbrev pub invariant-loop-i : goal.invariant-loop-i
invariant-loop-i l = l.tags ≡ tags_of (take l.i l.extents)
