use Rattle.std.proofs.Common.{◌≡◌, [], replicate}
use Rattle.granule_mem.proofs.granule_words.nothing_stored.Given as goal

abbrev pub invariant-loop : goal.invariant-loop
invariant-loop l = l.stored.items ≡ replicate l.counter []
