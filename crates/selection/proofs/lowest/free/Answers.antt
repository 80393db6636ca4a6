use Rattle.std.proofs.Common.{◌≡◌, ◌+◌, ◌<◌, Err, List, arith, refl, lt-ltb, subst, sym, true}
use Rattle.std.{specs.List.range_with_len, proofs.lemmas.List.FromFn.length-range_with_len, proofs.lemmas.List.Sums.count_by-le-length, proofs.lemmas.List.Sums.length-filter}
use Rattle.extent_list.specs.dcd_codes.specs.{dcd_base.specs.declared.media.Run.Run, declared.refusals.Refusal.Refusal}
use Rattle.granule_map.specs.{Blocks.block_count, Blocks.free_block_count, Blocks.is_block_free, StateLists.is_free_at}
use Rattle.selection.{proofs.Chosen.between_apart, proofs.Chosen.free_are_free, proofs.Chosen.free_between, specs.Picks.PicksLowest}
use Rattle.selection.specs.Selections.{AreApart, AreBetween, are_free}
use Rattle.selection.proofs.lowest.free.Goals as goal

pub returns-clause-within : goal.returns-clause-within
returns-clause-within c =
    subst (λ (runs : List Run). AreBetween c.args.area.first (c.args.area.first + c.args.area.count) runs) (sym c.in_ok-find_lowest.ensures.runs)
    (free_between (is_free_at c.args.map.now.states) c.args.area c.args.per_block c.requires.area.some c.requires.area.whole c.args.blocks)

pub returns-clause-apart : goal.returns-clause-apart
returns-clause-apart c =
    subst (λ (runs : List Run). AreApart runs) (sym c.in_ok-find_lowest.ensures.runs)
    (between_apart c.args.area.first (c.args.area.first + c.args.area.count) _
    (free_between (is_free_at c.args.map.now.states) c.args.area c.args.per_block c.requires.area.some c.requires.area.whole c.args.blocks))

pub returns-clause-are_free : goal.returns-clause-are_free
returns-clause-are_free c =
    subst (λ (runs : List Run). are_free (is_free_at c.args.map.now.states) runs ≡ true) (sym c.in_ok-find_lowest.ensures.runs)
    (free_are_free (is_free_at c.args.map.now.states) c.args.area c.args.per_block c.args.blocks)

pub returns-then-blocks-from-clause-answer : goal.returns-then-blocks-from-clause-answer
returns-then-blocks-from-clause-answer c =
    let p = is_block_free c.args.map.now.states c.args.area c.args.per_block in
    let all = range_with_len 0 (block_count c.args.area c.args.per_block) in
    let few : free_block_count c.args.map.now.states c.args.area c.args.per_block < c.args.blocks =
    omega (arith, length-filter p all, count_by-le-length p all, length-range_with_len 0 (block_count c.args.area c.args.per_block), c.if-blocks-from.true, c.from.ensures) in
    subst (λ (r : Refusal). PicksLowest c.args.map.now.states c.args.area c.args.per_block c.args.blocks (Err r)) (sym c.too_few.ensures) (rw (lt-ltb _ _ few) refl)
