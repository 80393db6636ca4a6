use Rattle.std.{proofs.Common.◌≡◌, proofs.Common.ℕ, proofs.Common.length, proofs.Common.leb, proofs.Common.ltb, proofs.Common.cond, specs.Prelude.◌&&◌}
use Rattle.granule_mem.specs.Contents.{word_kept}
use Rattle.granule_mem.proofs.granule_words.GranuleWords.zero.Given as goal

abbrev pub invariant-loop-granule : goal.invariant-loop-granule
invariant-loop-granule l = record {
  words : (g w : ℕ) → word_kept l.self-inside.stored.items g w ≡ cond (leb l.first g && ltb g l.granule) 0 (word_kept l.fn.self g w);
  granules : length l.self-inside.stored.items ≡ length l.fn.self;
}
