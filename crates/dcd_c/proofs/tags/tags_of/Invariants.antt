use Rattle.std.proofs.Common.{◌≡◌, drop, length, map, take}
use Rattle.tag_refs.specs.Tables.{tag_view}
use Rattle.dcd_c.specs.Lists.{tag_told}
use Rattle.dcd_c.proofs.tags.tags_of.Given as goal

abbrev pub invariant-loop-i : goal.invariant-loop-i
invariant-loop-i l = record {
  put : take l.i l.room ≡ map tag_told (take l.i (map tag_view l.kept.state.tags.entries));
  rest : drop l.i l.room ≡ drop l.i l.fn.room;
  size : length l.room ≡ length l.fn.room;
}
