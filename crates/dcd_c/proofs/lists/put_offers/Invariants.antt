use Rattle.std.proofs.Common.{◌≡◌, drop, length, take}
use Rattle.device_plain.specs.device_state.specs.StateAfter.{part_of}
use Rattle.dcd_c.specs.Lists.{offers_from}
use Rattle.dcd_c.proofs.lists.put_offers.Given as goal

abbrev pub invariant-loop-i : goal.invariant-loop-i
invariant-loop-i l = record {
  count : l.at ≡ length (offers_from 0 (take l.i (part_of l.kept.state l.host).lists.offers));
  put : take l.at l.room ≡ offers_from 0 (take l.i (part_of l.kept.state l.host).lists.offers);
  rest : drop l.at l.room ≡ drop l.at l.fn.room;
  size : length l.room ≡ length l.fn.room;
}
