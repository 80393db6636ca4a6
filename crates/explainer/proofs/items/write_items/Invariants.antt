use Rattle.std.{proofs.Common.◌≡◌, proofs.Common.◌++◌, proofs.Common.◌*◌, proofs.Common.◌-◌, proofs.Common.◌≤◌, proofs.Common.length, specs.List.flat_map}
use Rattle.dcd_base.specs.Layouts.{pieces}
use Rattle.explainer.specs.{ReplyKinds.item_length, ReplyWords.item_line, ReplyWords.item_lines}
use Rattle.explainer.proofs.items.write_items.Given as goal

-- The lines of the items so far are put; those that are left are all there.
abbrev pub invariant-loop : goal.invariant-loop
invariant-loop l = record {
  enough : item_length l.kind * (l.count - l.counter) ≤ length l.rest;
  put : l.out ++ flat_map (item_line l.kind) (pieces (item_length l.kind) (l.count - l.counter) l.rest) ≡ l.fn.out ++ item_lines l.kind l.count l.items;
}
