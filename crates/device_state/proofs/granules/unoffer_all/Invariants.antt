use Rattle.std.{proofs.Common.take, specs.Prelude.fold}
use Rattle.device_state.specs.Granules.{AreChanged, IsLastRegion}
use Rattle.device_rules.specs.GranuleCells.{unoffered_extent}
use Rattle.device_state.proofs.granules.unoffer_all.Given as goal

abbrev pub invariant-loop-i : goal.invariant-loop-i
invariant-loop-i l = record {
  last : IsLastRegion l.config l.last;
  unoffered : AreChanged (λ g cell. fold (unoffered_extent l.config l.host g) cell (take l.i l.extents)) l.fn.granules l.granules;
}
