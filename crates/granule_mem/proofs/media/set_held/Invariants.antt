use Rattle.std.{proofs.Common.◌≡◌, proofs.Common.ℕ, proofs.Common.length, proofs.Common.get_or, proofs.Common.leb, proofs.Common.ltb, proofs.Common.cond, specs.Prelude.◌&&◌}
use Rattle.granule_mem.proofs.media.set_held.Given as goal

abbrev pub invariant-loop-granule : goal.invariant-loop-granule
invariant-loop-granule l = record {
  holders : (g : ℕ) → get_or l.held g 0 ≡ cond (leb l.first g && ltb g l.granule) l.holders (get_or l.fn.held g 0);
  all : length l.held ≡ length l.fn.held;
}
