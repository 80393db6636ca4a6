use Rattle.std.proofs.Common.{◌≡◌, length, map, ap, min, ◌∙◌, arith}
use Rattle.selection.specs.granule_map.specs.{StateLists.is_dirty_at, Choices.joined}
use Rattle.journal_core.specs.declared.outcome.Effect.{Effect}
use Rattle.extent_list.specs.media_map.specs.region_config.specs.Granules.{same_region}
use Rattle.sanitizer.specs.Turns.{granules_of_runs, lowest_dirty, run_of_pair}
use Rattle.manager_commands.proofs.ZeroedGranules.{is_zeroed, no_more}
use Rattle.manager_commands.proofs.scrub.zero_dirty.Goals as goal

pub returns : goal.returns
returns c =
    let wanted : c.min-wanted.result ≡ min c.args.most c.dirty.result = omega (arith, c.min-wanted.ensures, c.from.ensures) in
    let granules : lowest_dirty c.args.config.now (is_dirty_at c.states.result.now.states) c.min-wanted.result ≡ lowest_dirty c.args.config.now (is_dirty_at c.args.state.now.granules.states) c.args.most =
    (λ i. lowest_dirty c.args.config.now (is_dirty_at (c.states.ensures i)) (wanted i))
    ∙ no_more c.args.config.now c.args.state.now.granules.states c.args.most c.dirty.result c.requires.reached.kept.granule_count c.dirty.ensures in
    is_zeroed c.args.config.now c.args.state.now c.args.most c.in_ok-runs.runs _ _
    (c.granules_of_runs.ensures ∙ ap granules_of_runs c.as_slice.ensures)
    (c.in_ok-zeroes.ensures ∙ ap (map Effect.Zero) c.as_slice-2.ensures)
    (c.in_ok-runs.ensures.runs ∙ ap (λ gs. map run_of_pair (joined (same_region c.args.config.now) gs)) granules)
    (c.in_ok-runs.ensures.count ∙ ap length granules)
