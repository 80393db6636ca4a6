use Rattle.ruled_cells.proofs.ClosingSteps.{no_empty, no_first_there, unpacked, taken_next, left_next, each_next}
use Rattle.ruled_cells.specs.{Telling.values, declared.cell_value.CellValue.TheVariants.Rest}
use Rattle.std.proofs.Common.{◌≡◌, get_or, false, ◌+◌, length, sym, ap, ◌∙◌, arith, subst, ◌<◌, Some}
use Rattle.std.proofs.lemmas.List.{length_push}
use mathlib.Core.Option.{some}
use lib.ListN.{get_elem?}
use Rattle.core.specs.Mem.Slots.{slots_items, slots_counts}
use Rattle.ruled_cells.proofs.closing.unpack.Goals as goal

pub unreachable-requires-in_default-slot : goal.unreachable-requires-in_default-slot
unreachable-requires-in_default-slot g c = let k = c.requires.kept in no_empty _ (values k.0 k.1) (c.loop-i.i + 1) (c.loop-i.invariant.items ∙ k.2) c.in_default-slot.ensures.value

pub unreachable-requires-in_default-kept-2 : goal.unreachable-requires-in_default-kept-2
unreachable-requires-in_default-kept-2 g c = let k = c.requires.kept in no_first_there _ k.0 k.1 c.loop-i.i _ _ (c.loop-i.invariant.items ∙ k.2) c.in-Some-slot.ensures.value c.in_default-kept-2.is

pub loop-i-preserved : goal.loop-i-preserved
loop-i-preserved g c =
    let i = c.loop-i.invariant in
    let o = c.take-slot-in-loop-i.ensures.others in
    let filled = c.loop-i.closed.slots.filled in
    let row = c.loop-i.row.items in
    let pushed = c.push_reserved.ensures.items in
    let value = c.in-Rest.value in
    let there : get_elem? (slots_items c.args.closed.slots) (c.loop-i.i + 1) ≡ some (Some (Rest value)) = ap (λ l. get_elem? l (c.loop-i.i + 1)) (sym i.items) ∙ (c.in-Some-slot.ensures.value ∙ ap (λ x. some (Some x)) c.in-Rest.is) in
    let count = i.count in record {
      items = o.0 ∙ i.items;
      len = o.2 ∙ i.len;
      taken = λ k le. ap (λ l. get_or l k false) o.1 ∙ taken_next filled c.loop-i.i i.taken k le;
      left = λ k lt up. ap (λ l. get_or l k false) o.1 ∙ left_next filled c.loop-i.i _ i.left k lt (subst (λ n. k < n) o.2 up);
      count = ap length pushed ∙ (length_push row value ∙ ap (λ n. n + 1) count);
      each = λ k x e. each_next (slots_items c.args.closed.slots) row value c.loop-i.i count i.each there k x (ap (λ l. get_elem? l k) (sym pushed) ∙ e);
      room = c.push_reserved.ensures.capacity ∙ i.room;
    }

pub returns : goal.returns
returns g c =
    let i = c.loop-i.invariant in
    let counts = (slots_counts c.args.closed.slots).0 in
    let full = c.requires.full.1 in
    let count = i.count in
    let low = c.loop-i.auto.i-end in
    let high = c.loop-i-test.false in
    unpacked (slots_items c.args.closed.slots) c.in-First.first c.loop-i.row.items (omega (arith, counts, full, count, low, high)) (c.in-Some.ensures.value ∙ ap (λ x. some (Some x)) c.in-First.is) i.each
