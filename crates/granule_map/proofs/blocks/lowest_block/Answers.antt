use Rattle.std.proofs.{Common.◌∙◌, Common.sym, Common.arith, Math.Nat.div-le_self}
use Rattle.granule_map.{specs.Blocks.block_count, specs.Blocks.is_block_free, proofs.Stretches.lowest_here, proofs.Stretches.lowest_later, proofs.Stretches.lowest_none}
use Rattle.granule_map.proofs.blocks.lowest_block.Goals as goal

pub overflow_add-at : goal.overflow_add-at
overflow_add-at c = omega (arith, c.in-Some.ensures.within, div-le_self c.args.area.now.count c.args.per_block)

pub returns-then-count-blocks-clause-lowest : goal.returns-then-count-blocks-clause-lowest
returns-then-count-blocks-clause-lowest c =
    let p = is_block_free c.args.map.now.states c.args.area.now c.args.per_block in
    let n = block_count c.args.area.now c.args.per_block in
    sym (lowest_here p n c.args.count c.loop-blocks.at c.in-Some.blocks.first c.in-Some.blocks.count c.requires.some c.in-Some.ensures c.if-count-blocks.true) ∙ c.loop-blocks.invariant.rest

pub loop-blocks-preserved : goal.loop-blocks-preserved
loop-blocks-preserved c =
    let p = is_block_free c.args.map.now.states c.args.area.now c.args.per_block in
    let n = block_count c.args.area.now c.args.per_block in
    record {
      within = c.in-Some.ensures.within;
      rest = sym (lowest_later p n c.args.count c.loop-blocks.at c.in-Some.blocks.first c.in-Some.blocks.count c.requires.some c.in-Some.ensures c.if-count-blocks.false) ∙ c.loop-blocks.invariant.rest;
    }

pub returns-clause-lowest : goal.returns-clause-lowest
returns-clause-lowest c =
    let p = is_block_free c.args.map.now.states c.args.area.now c.args.per_block in
    let n = block_count c.args.area.now c.args.per_block in
    sym (lowest_none p n c.args.count c.loop-blocks.at c.requires.some c.loop-blocks.invariant.within c.in_default.ensures) ∙ c.loop-blocks.invariant.rest
