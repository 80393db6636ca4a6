use Rattle.std.proofs.Common.{◌+◌, ◌-◌, subst, arith}
use Rattle.granule_map.{proofs.AreaBlocks.IsReached, proofs.AreaBlocks.none_between, proofs.AreaBlocks.stretch_between, specs.StateLists.is_free_at}
use Rattle.granule_map.specs.Stretches.{AreWhole, IsNext, fails}
use Rattle.granule_map.proofs.blocks.next_blocks.Goals as goal

pub returns-in-Some : goal.returns-in-Some
returns-in-Some c =
    let start = c.start_of-start.ensures in
    let reached : IsReached c.args.map.now.states c.args.area.now c.args.per_block c.args.from c.loop-at.at c.next_free-free.result c.next_taken-taken.result = record {
      area_is = c.requires.area;
      low = c.loop-at.invariant.low;
      passed = c.loop-at.invariant.passed;
      found = subst (λ s. IsNext (is_free_at c.args.map.now.states) c.loop-at.at (s + c.args.area.now.count) c.next_free-free.result) start c.next_free-free.ensures;
      ends = subst (λ s. IsNext (fails (is_free_at c.args.map.now.states)) c.next_free-free.result (s + c.args.area.now.count) c.next_taken-taken.result) start c.next_taken-taken.ensures;
    } in
    stretch_between c.args.map.now.states c.args.area.now c.args.per_block c.args.from c.loop-at.at c.next_free-free.result c.next_taken-taken.result reached c.in-Some.blocks.first c.in-Some.blocks.count
    (subst (λ s. AreWhole c.args.per_block (c.next_free-free.result - s) (c.next_taken-taken.result - s) c.in-Some.blocks.first c.in-Some.blocks.count) start c.in-Some.ensures)

pub loop-at-preserved : goal.loop-at-preserved
loop-at-preserved c =
    let start = c.start_of-start.ensures in
    let reached : IsReached c.args.map.now.states c.args.area.now c.args.per_block c.args.from c.loop-at.at c.next_free-free.result c.next_taken-taken.result = record {
      area_is = c.requires.area;
      low = c.loop-at.invariant.low;
      passed = c.loop-at.invariant.passed;
      found = subst (λ s. IsNext (is_free_at c.args.map.now.states) c.loop-at.at (s + c.args.area.now.count) c.next_free-free.result) start c.next_free-free.ensures;
      ends = subst (λ s. IsNext (fails (is_free_at c.args.map.now.states)) c.next_free-free.result (s + c.args.area.now.count) c.next_taken-taken.result) start c.next_taken-taken.ensures;
    } in
    record {
      low = omega (arith, c.loop-at.invariant.low, reached.found.from_below, reached.ends.from_below);
      high = reached.ends.within;
      passed = none_between c.args.map.now.states c.args.area.now c.args.per_block c.args.from c.loop-at.at c.next_free-free.result c.next_taken-taken.result reached
          (λ k low. omega (arith, start, c.in_default.ensures k (omega (arith, low, start))));
    }
