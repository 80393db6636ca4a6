use Rattle.std.proofs.Common.{◌≡◌, List, length, sum_by, take}
use Rattle.dcd_base.specs.declared.capacity.Extent.{Extent}
use Rattle.device_plain.specs.device_state.specs.StateAfter.{part_of}
use Rattle.dcd_c.proofs.lists.offered_count.Given as goal

abbrev pub invariant-loop-i : goal.invariant-loop-i
invariant-loop-i l = l.count ≡ sum_by (λ (xs : List Extent). length xs) (take l.i (part_of l.kept.state l.host).lists.offers)
