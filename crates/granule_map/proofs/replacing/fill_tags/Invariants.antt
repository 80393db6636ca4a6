use Rattle.std.proofs.Common.{◌≡◌}
use Rattle.granule_map.proofs.PartsReplaced.{replaced}
use Rattle.granule_map.proofs.replacing.fill_tags.Given as goal

abbrev pub invariant-loop-i : goal.invariant-loop-i
invariant-loop-i l = l.tags ≡ replaced l.first l.i l.tag l.fn.tags
