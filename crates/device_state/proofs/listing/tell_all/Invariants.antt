use Rattle.std.proofs.Common.{◌≡◌, ◌≤◌, drop, take}
use Rattle.device_state.specs.EnteredLists.{each_tag, told}
use Rattle.device_state.proofs.listing.tell_all.Given as goal

abbrev pub invariant-loop-i : goal.invariant-loop-i
invariant-loop-i l = record {
  told : l.tags.entries ≡ told l.host (record l.lists { offers = drop l.first l.lists.offers }) (each_tag (take l.i l.extents)) l.fn.tags.entries;
  spare : l.fn.tags.spare ≤ l.tags.spare;
}
