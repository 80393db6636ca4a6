use Rattle.std.{proofs.Common.◌≡◌, proofs.Common.take, specs.List.list_any}
use Rattle.extent_list.specs.ExtentLists.{has_extent_of}
use Rattle.device_commands.specs.device_rules.specs.TagTable.{ending}
use Rattle.control_core.proofs.ending.ending.Given as goal

-- Of the tags so far those that end.
abbrev pub invariant-loop-i : goal.invariant-loop-i
invariant-loop-i l = l.ended ≡ ending l.host (λ t. has_extent_of t l.lists.accepted) (λ t. list_any (has_extent_of t) l.lists.offers) l.state.tags.entries (take l.i l.tags)
