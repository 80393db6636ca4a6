use Rattle.std.{proofs.Common.◌≡◌, proofs.Common.ℕ, proofs.Common.length, proofs.Common.get_or, proofs.Common.cond, specs.Prelude.if◌then◌else◌}
use Rattle.cci_codec.specs.dcd_base.specs.Hosts.{with_host, without_host}
use Rattle.device_state.proofs.HolderSteps.{between}
use Rattle.device_state.proofs.holders.set_bits.Given as goal

abbrev pub invariant-loop-granule : goal.invariant-loop-granule
invariant-loop-granule l = record {
  granules : length l.bits ≡ length l.fn.bits;
  each : (g : ℕ) → get_or l.bits g 0 ≡ cond (between l.first l.granule g) (if l.held then with_host (get_or l.fn.bits g 0) l.host else without_host (get_or l.fn.bits g 0) l.host) (get_or l.fn.bits g 0);
}
