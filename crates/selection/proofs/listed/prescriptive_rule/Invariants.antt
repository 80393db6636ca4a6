use Rattle.std.proofs.Common.{◌≡◌, None, take}
use Rattle.extent_list.specs.dcd_codes.specs.Rules.{each_in}
use Rattle.granule_map.specs.StateLists.{is_free_at}
use Rattle.selection.specs.Selections.{free_extent_rule}
use Rattle.selection.proofs.listed.prescriptive_rule.Given as goal

abbrev pub invariant-loop-i : goal.invariant-loop-i
invariant-loop-i l = each_in (take l.i l.listed) (free_extent_rule l.config l.host (is_free_at l.map.states) l.region) ≡ None
