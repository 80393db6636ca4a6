use Rattle.std.proofs.Common.{◌≡◌, None, take}
use Rattle.dcd_codes.specs.Rules.{each_in}
use Rattle.extent_list.specs.Listed.{listed_rule}
use Rattle.extent_list.proofs.listed.first_behind.Given as goal

abbrev pub invariant-loop-i : goal.invariant-loop-i
invariant-loop-i l = each_in (take l.i l.list) (listed_rule l.config l.host l.within l.owners l.owned) ≡ None
