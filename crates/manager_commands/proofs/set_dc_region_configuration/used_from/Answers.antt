use Rattle.std.proofs.Common.{◌≡◌, ◌≤◌, ◌+◌, ℕ, Bool, true, false, not, [], ◌∷◌, cond, arith, ap, ◌∙◌}
use Rattle.std.{specs.Prelude.count_by, specs.List.range_with_len, proofs.Math.Facts.Fits-of_lt, proofs.lemmas.List.Sums.sum_by-append}
use Rattle.selection.specs.granule_map.specs.StateLists.{is_free_at}
use Rattle.manager_commands.proofs.ListPages.{range_more}
use Rattle.manager_commands.proofs.set_dc_region_configuration.used_from.Goals as goal

pub overflow_add-first : goal.overflow_add-first
overflow_add-first c = Fits-of_lt (omega (arith, c.loop-offset-test.true, c.requires, c.len-granules.ensures.few))

small : (b : Bool) → cond b 1 0 ≤ 1
small true = omega arith
small false = omega arith

pub loop-offset-preserved : goal.loop-offset-preserved
loop-offset-preserved c =
    let p : ℕ → Bool = λ g. not (is_free_at c.args.state.now.granules.states g) in
    let k : ℕ = c.args.first + c.loop-offset.offset in
    let before : ℕ = count_by p (range_with_len c.args.first c.loop-offset.offset) in
    let more : count_by p (range_with_len c.args.first (c.loop-offset.offset + 1)) ≡ before + (0 + cond (p k) 1 0) =
    ap (count_by p) (range_more c.args.first c.loop-offset.offset) ∙ sum_by-append (λ g. cond (p g) 1 0) (range_with_len c.args.first c.loop-offset.offset) (k ∷ []) in
    let new : c.use_of-in_use.result ≡ cond (p k) 1 0 = c.use_of-in_use.ensures in
    record {
      used = omega (arith, more, new, c.loop-offset.invariant.used);
      few = omega (arith, new, small (p k), c.loop-offset.invariant.few);
    }
