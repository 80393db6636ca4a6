use Rattle.std.proofs.{Common.arith, Math.Nat.div-le_self}
use Rattle.granule_map.{specs.Blocks.block_count, specs.Blocks.is_block_free, proofs.Stretches.count_none, proofs.Stretches.count_stretch}
use Rattle.granule_map.proofs.blocks.count_free_blocks.Goals as goal

pub overflow_add-free : goal.overflow_add-free
overflow_add-free c =
    omega (arith, c.loop-blocks.invariant.few, c.in-Some.ensures.from_below, c.in-Some.ensures.within, div-le_self c.args.area.now.count c.args.per_block)

pub overflow_add-at : goal.overflow_add-at
overflow_add-at c = omega (arith, c.in-Some.ensures.within, div-le_self c.args.area.now.count c.args.per_block)

pub loop-blocks-preserved : goal.loop-blocks-preserved
loop-blocks-preserved c =
    let p = is_block_free c.args.map.now.states c.args.area.now c.args.per_block in
    let n = block_count c.args.area.now c.args.per_block in
    record {
      within = c.in-Some.ensures.within;
      few = omega (arith, c.loop-blocks.invariant.few, c.in-Some.ensures.from_below);
      rest = omega (arith, count_stretch p n c.loop-blocks.at c.in-Some.blocks.first c.in-Some.blocks.count c.in-Some.ensures, c.loop-blocks.invariant.rest);
    }

pub returns : goal.returns
returns c =
    let p = is_block_free c.args.map.now.states c.args.area.now c.args.per_block in
    let n = block_count c.args.area.now c.args.per_block in
    omega (arith, count_none p n c.loop-blocks.at c.in_default.ensures, c.loop-blocks.invariant.rest)
