use Rattle.std.proofs.Common.{◌≡◌, drop, length, map, take}
use Rattle.tag_refs.specs.Tables.{tag_view}
use Rattle.manager_commands.proofs.dynamic_capacity_list_tags.views_of.Given as goal

abbrev pub invariant-loop-index : goal.invariant-loop-index
invariant-loop-index l = record {
  views : l.views ≡ map tag_view (take l.index (drop l.first l.tags.entries));
  few : length l.views ≡ l.index;
}
