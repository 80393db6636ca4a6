use Rattle.std.proofs.Common.{◌≡◌, ◌+◌, ◌-◌, min, ap, subst, sym, arith, false, length, length-append, refl}
use Rattle.std.{specs.List.range_with_len, proofs.lemmas.List.FromFn.length-range_with_len}
use Rattle.granule_map.proofs.{Joining.IsFound, Joining.found_next, Joining.found_run, Joining.lowest_split, Joining.none_left, Stretches.first_found, Stretches.no_stretch, Stretches.prefix_is}
use Rattle.granule_map.specs.{Blocks.block_count, Blocks.is_block_free, Choices.lowest_from, Stretches.IsStretch}
use Rattle.selection.specs.Selections.{always_together}
use Rattle.selection.proofs.lowest.next_run.Goals as goal

pub returns-in-None : goal.returns-in-None
returns-in-None c =
    let p = is_block_free c.args.map.now.states c.args.area.now c.args.per_block in
    let n = block_count c.args.area.now c.args.per_block in
    none_left p n c.args.from c.args.most (no_stretch p n c.args.from c.in-None.ensures)

pub returns-in-Some : goal.returns-in-Some
returns-in-Some c =
    let p = is_block_free c.args.map.now.states c.args.area.now c.args.per_block in
    let n = block_count c.args.area.now c.args.per_block in
    let from = c.args.from in
    let most = c.args.most in
    let first = c.in-Some.blocks.first in
    let count = c.in-Some.blocks.count in
    let taken = c.min.result in
    let s : IsStretch (is_block_free c.args.map.now.states c.args.area.now c.args.per_block) (block_count c.args.area.now c.args.per_block) c.args.from c.in-Some.blocks.first c.in-Some.blocks.count = c.in-Some.ensures in
    let many : c.min.result ≡ min c.args.most c.in-Some.blocks.count = c.min.ensures in
    let f : IsFound (is_block_free c.args.map.now.states c.args.area.now c.args.per_block) (block_count c.args.area.now c.args.per_block) c.args.from c.args.most c.in-Some.blocks.first (block_count c.args.area.now c.args.per_block) c.min.result = record {
      lowest = first_found p n from first count s;
      some = omega (arith, c.if-most-eq0.false);
      end_above = omega (arith, s.within, s.some);
      end_within = omega arith;
      count = sym (prefix_is p first (min most (n - first)) taken (omega (arith, many, s.within)) (λ k low high. s.each k low (omega (arith, high, many)))
          (λ less.
          let all : c.in-Some.blocks.count ≡ c.min.result = omega (arith, less, many, s.within) in
          subst (λ m. p (first + m) ≡ false) all (s.ends (omega (arith, less, all, s.within)))));
    } in
    let run = found_run p n from most first n taken f in
    let split = ap length (lowest_split p n from most first taken run) in (
      found_next p n from most first n taken f always_together (λ past. absurd (omega (arith, past))) (λ k low high. refl),
      omega (arith, run.from_below, run.some),
      run.within,
      run.enough,
      omega (arith, split, length-append (range_with_len first taken) (lowest_from p n (first + taken) (most - taken)), length-range_with_len first taken),
    )
