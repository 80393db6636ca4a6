use Rattle.std.proofs.Common.{◌≡◌, ◌++◌, ◌-◌, ◌+◌, take, drop, length, ap, sym, ◌∙◌, arith}
use Rattle.std.specs.List.{flat_map}
use Rattle.dcd_base.specs.Layouts.{pieces}
use Rattle.explainer.{specs.ReplyKinds.item_length, specs.ReplyWords.item_line, proofs.ReplyLists.items_left, proofs.ReplyLists.one_item}
use Rattle.explainer.proofs.items.write_items.Goals as goal

pub loop-preserved : goal.loop-preserved
loop-preserved c =
    let size = c.item_length-size.ensures.value in
    let rest = c.loop.rest.now in
    let item : c.split_at.result.0.now ≡ take (item_length c.args.kind) rest = c.split_at.ensures.front ∙ ap (λ n. take n rest) size in
    let behind : c.split_at.result.1.now ≡ drop (item_length c.args.kind) rest = c.split_at.ensures.back ∙ ap (λ n. drop n rest) size in
    let left = c.args.count - (c.loop.counter + 1) in
    record {
      enough = items_left (item_length c.args.kind) c.args.count c.loop.counter (length rest) (length c.split_at.result.1.now) c.loop-test.true c.loop.invariant.enough (omega (arith, c.split_at.ensures.back_len, size));
      put = ap (λ bytes. c.write_item_line.new.out ++ flat_map (item_line c.args.kind) (pieces (item_length c.args.kind) left bytes)) behind
          ∙ one_item (item_line c.args.kind) (item_length c.args.kind) c.args.count c.loop.counter c.loop.out c.write_item_line.new.out rest _ c.loop-test.true
          (c.in_ok-write_item_line.ensures ∙ ap (λ bytes. c.loop.out ++ item_line c.args.kind bytes) item) c.loop.invariant.put;
    }
