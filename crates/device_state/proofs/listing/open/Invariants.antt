use Rattle.std.proofs.Common.{◌≡◌, map, take}
use Rattle.extent_list.specs.media_map.specs.Places.{run_of}
use Rattle.device_state.proofs.listing.open.Given as goal

abbrev pub invariant-loop-i : goal.invariant-loop-i
invariant-loop-i l = take l.i l.runs ≡ map (run_of l.config l.host) (take l.i l.extents)
