use Rattle.std.proofs.Common.{ℕ, ◌<◌, get_or}
use Rattle.cci_codec.specs.dcd_base.specs.declared.capacity.Extent.{Extent}
use Rattle.control_core.specs.Fitting.{TagFits}
use Rattle.control_core.proofs.fitting.extents_fit.Given as goal

abbrev pub invariant-loop-i : goal.invariant-loop-i
invariant-loop-i l = (k : ℕ) (d : Extent) → k < l.i → TagFits (get_or l.extents k d).tag
