use Rattle.std.{proofs.Common.◌≡◌, proofs.Common.◌+◌, proofs.Common.◌^◌, proofs.Common.◌<◌, proofs.Common.◌≤◌, proofs.Common.length, proofs.Common.take, specs.Prelude.All}
use Rattle.cci_codec.specs.dcd_base.specs.declared.capacity.Extent.{Extent}
use Rattle.device_state.specs.Leaves.{left_over}
use Rattle.device_state.proofs.leaving.ranges_of.Given as goal

abbrev pub invariant-loop-effect : goal.invariant-loop-effect
invariant-loop-effect l = record {
  ranges : l.ranges ≡ left_over l.config l.host (take l.effect-index l.effects);
  few : length l.ranges ≤ l.effect-index;
  ends : All (λ (x : Extent). x.start + x.length < 2 ^ 64) l.ranges;
}
