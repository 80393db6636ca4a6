use Rattle.std.{proofs.Common.take, specs.Prelude.fold}
use Rattle.device_state.specs.Granules.{AreChanged, IsLastRegion}
use Rattle.device_rules.specs.GranuleCells.{offered_extent}
use Rattle.device_state.proofs.granules.offer_all.Given as goal

abbrev pub invariant-loop-i : goal.invariant-loop-i
invariant-loop-i l = record {
  last : IsLastRegion l.config l.last;
  offered : AreChanged (λ g cell. fold (offered_extent l.config l.host g) cell (take l.i l.extents)) l.fn.granules l.granules;
}
