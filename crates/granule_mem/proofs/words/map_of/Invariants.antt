use Rattle.std.proofs.Common.{◌-◌, drop, length}
use Rattle.granule_mem.specs.Words.{HasSameWords}
use Rattle.granule_mem.proofs.words.map_of.Given as goal

abbrev pub invariant-loop-done : goal.invariant-loop-done
invariant-loop-done l = HasSameWords l.map.entries (drop (length l.few - l.done) l.few)
