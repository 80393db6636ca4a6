use Rattle.std.proofs.Common.{◌≡◌, None, take}
use Rattle.granule_mem.specs.Words.{found}
use Rattle.granule_mem.proofs.words.place_of.Given as goal

abbrev pub invariant-loop-place : goal.invariant-loop-place
invariant-loop-place l = found (take l.place l.few) l.word ≡ None
