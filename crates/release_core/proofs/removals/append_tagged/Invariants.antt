use Rattle.std.proofs.Common.{◌≡◌, take}
use Rattle.release_core.specs.Removals.{extents_of_tag}
use Rattle.release_core.proofs.removals.append_tagged.Given as goal

abbrev pub invariant-loop-extent : goal.invariant-loop-extent
invariant-loop-extent l = l.leaving ≡ extents_of_tag l.tag (take l.extent-index l.extents)
