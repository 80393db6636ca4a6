use Rattle.std.proofs.Common.{◌≡◌, ◌+◌, ◌%◌, ◌/◌, ◌==◌, ◌||◌, not, true, false, List, Result, Ok, Err, length, arith, ap, subst, sym, ◌∙◌}
use Rattle.std.{specs.Prelude.All, proofs.lemmas.Bool.eq-eqb, proofs.lemmas.Bool.ne_eqb}
use Rattle.event_records.specs.dcd_base.specs.declared.{capacity.Extent.Extent, media.Run.Run}
use Rattle.extent_list.specs.{dcd_codes.specs.Rules.ByRow, dcd_codes.specs.declared.refusals.Refusal.Refusal, media_map.specs.Places.IsRun}
use Rattle.extent_list.specs.media_map.specs.region_config.{proofs.Faultless.granules_within, specs.Granules.first_granule, specs.Granules.region_granules}
use Rattle.extent_list.specs.media_map.specs.region_config.specs.declared.region_spec.RegionSpec.{RegionSpec}
use Rattle.device_state.specs.device_rules.specs.Adding.{area_of}
use Rattle.selection.specs.{Selections.contiguous_runs, Selections.free_runs, Selections.too_few_free, granule_map.specs.Blocks.free_block_count, granule_map.specs.Blocks.longest_free_run}
use Rattle.selection.specs.granule_map.specs.StateLists.{is_free_at}
use Rattle.manager_commands.proofs.BlockChoices.{LieInRegion, between_few, between_runs, found_free, found_in, found_together, of_length}
use Rattle.manager_commands.proofs.{Rows.refused, TaggedRuns.length-tagged_runs, choosing.free_extents.Goals.else-asked-eq0-2, choosing.free_extents.Goals.then-asked-eq0-2}
use Rattle.manager_commands.specs.InitiateDynamicCapacityAdd.{length_rule, length_runs, tagged_runs}
use Rattle.manager_commands.proofs.choosing.free_extents.Goals as goal

pub tagged_runs-requires-clause-runs : goal.tagged_runs-requires-clause-runs
tagged_runs-requires-clause-runs c =
    let present = c.args.state.now.present in
    let r = c.args.asked.now.region in
    let area_is : c.granules_of-area.result ≡ area_of present r = λ i. record { first = c.granules_of-area.ensures.first i; count = c.granules_of-area.ensures.count i } in
    let within : LieInRegion present r c.in-Ok.runs = elim c.if-asked-eq0-2.branch [
      | then-asked-eq0-2 w ↦ found_in present r c.granules_of-area.result w.free-found.result c.in-Ok.runs area_is (sym w.found-is ∙ c.in-Ok.is) w.free-found.ensures.within
      | else-asked-eq0-2 w ↦ found_in present r c.granules_of-area.result w.contiguous-found.result c.in-Ok.runs area_is (sym w.found-is ∙ c.in-Ok.is) w.contiguous-found.ensures.within
    ] in
    subst (All (IsRun present)) (sym c.as_slice.ensures) (between_runs present r (first_granule present r) c.in-Ok.runs c.requires.region (omega arith) within)

pub tagged_runs-requires-clause-few : goal.tagged_runs-requires-clause-few
tagged_runs-requires-clause-few c =
    let present = c.args.state.now.present in
    let r = c.args.asked.now.region in
    let area_is : c.granules_of-area.result ≡ area_of present r = λ i. record { first = c.granules_of-area.ensures.first i; count = c.granules_of-area.ensures.count i } in
    let within : LieInRegion present r c.in-Ok.runs = elim c.if-asked-eq0-2.branch [
      | then-asked-eq0-2 w ↦ found_in present r c.granules_of-area.result w.free-found.result c.in-Ok.runs area_is (sym w.found-is ∙ c.in-Ok.is) w.free-found.ensures.within
      | else-asked-eq0-2 w ↦ found_in present r c.granules_of-area.result w.contiguous-found.result c.in-Ok.runs area_is (sym w.found-is ∙ c.in-Ok.is) w.contiguous-found.ensures.within
    ] in
    omega (
      arith,
      ap length c.as_slice.ensures,
      between_few (first_granule present r) (first_granule present r + region_granules present r) c.in-Ok.runs within,
      granules_within present r c.requires.region,
      c.regions-regions.ensures.sound.granules,
    )

pub returns-in_ok-extents-in-Ok-clause-row : goal.returns-in_ok-extents-in-Ok-clause-row
returns-in_ok-extents-in-Ok-clause-row c =
    let s = c.args.state.now in
    let a = c.args.asked.now in
    let r = a.region in
    let block = c.region-block.result.block in
    let need = a.length / block in
    let per = c.per_block-per_block.result in
    let states = c.states-map.result.now.states in
    let area = c.granules_of-area.result in
    let area_is : area ≡ area_of s.present r = λ i. record { first = c.granules_of-area.ensures.first i; count = c.granules_of-area.ensures.count i } in
    let found : Result (List Run) Refusal = Ok c.in-Ok.runs in
    let some : (a.length == 0) ≡ false = ne_eqb a.length 0 (λ e. omega (arith, e, c.if-asked-eq0.false)) in
    let whole : (a.length % block == 0) ≡ true = eq-eqb (a.length % block) 0 (omega (arith, c.if-asked-block-ne0.false)) in
    let row : ByRow (length_rule s a) (λ (runs : List Run). runs ≡ length_runs s a) found =
    of_length s a.policy r a.length block found (ap (λ (spec : RegionSpec). spec.block) c.region-block.ensures.value) (λ i. some i || not (whole i)) (elim c.if-asked-eq0-2.branch [
      | then-asked-eq0-2 w ↦ found_free s r need per states area found c.states-map.ensures area_is c.per_block-per_block.ensures.value
          a.policy (eq-eqb a.policy 0 w.if-asked-eq0-2.true)
          (subst (λ (f : Result (List Run) Refusal). ByRow (too_few_free need (free_block_count states area per)) (λ (runs : List Run). runs ≡ free_runs (is_free_at states) area per need) f)
          (sym w.found-is ∙ c.in-Ok.is) w.free-found.ensures.answer)
      | else-asked-eq0-2 w ↦ found_together s r need per states area found c.states-map.ensures area_is c.per_block-per_block.ensures.value
          a.policy (ne_eqb a.policy 0 (λ e. omega (arith, e, w.if-asked-eq0-2.false)))
          (subst (λ (f : Result (List Run) Refusal). ByRow (too_few_free need (longest_free_run states area per)) (λ (runs : List Run). runs ≡ contiguous_runs (is_free_at states) area per need) f)
          (sym w.found-is ∙ c.in-Ok.is) w.contiguous-found.ensures.answer)
    ]) in
    (row.0, c.in_ok-extents-in-Ok.ensures ∙ ap (tagged_runs s a c.args.shareable) (c.as_slice.ensures ∙ row.1))

pub returns-in_ok-extents-in-Ok-clause-few : goal.returns-in_ok-extents-in-Ok-clause-few
returns-in_ok-extents-in-Ok-clause-few c =
    let present = c.args.state.now.present in
    let r = c.args.asked.now.region in
    let area_is : c.granules_of-area.result ≡ area_of present r = λ i. record { first = c.granules_of-area.ensures.first i; count = c.granules_of-area.ensures.count i } in
    let within : LieInRegion present r c.in-Ok.runs = elim c.if-asked-eq0-2.branch [
      | then-asked-eq0-2 w ↦ found_in present r c.granules_of-area.result w.free-found.result c.in-Ok.runs area_is (sym w.found-is ∙ c.in-Ok.is) w.free-found.ensures.within
      | else-asked-eq0-2 w ↦ found_in present r c.granules_of-area.result w.contiguous-found.result c.in-Ok.runs area_is (sym w.found-is ∙ c.in-Ok.is) w.contiguous-found.ensures.within
    ] in
    omega (
      arith,
      ap length c.in_ok-extents-in-Ok.ensures,
      length-tagged_runs c.args.state.now c.args.asked.now c.args.shareable c.as_slice.result.now,
      ap length c.as_slice.ensures,
      between_few (first_granule present r) (first_granule present r + region_granules present r) c.in-Ok.runs within,
      granules_within present r c.requires.region,
      c.regions-regions.ensures.sound.granules,
    )

pub returns-in-Err-clause-row : goal.returns-in-Err-clause-row
returns-in-Err-clause-row c =
    let s = c.args.state.now in
    let a = c.args.asked.now in
    let r = a.region in
    let block = c.region-block.result.block in
    let need = a.length / block in
    let per = c.per_block-per_block.result in
    let states = c.states-map.result.now.states in
    let area = c.granules_of-area.result in
    let area_is : area ≡ area_of s.present r = λ i. record { first = c.granules_of-area.ensures.first i; count = c.granules_of-area.ensures.count i } in
    let found : Result (List Run) Refusal = Err c.in-Err.refusal in
    let some : (a.length == 0) ≡ false = ne_eqb a.length 0 (λ e. omega (arith, e, c.if-asked-eq0.false)) in
    let whole : (a.length % block == 0) ≡ true = eq-eqb (a.length % block) 0 (omega (arith, c.if-asked-block-ne0.false)) in
    let row : ByRow (length_rule s a) (λ (runs : List Run). runs ≡ length_runs s a) found =
    of_length s a.policy r a.length block found (ap (λ (spec : RegionSpec). spec.block) c.region-block.ensures.value) (λ i. some i || not (whole i)) (elim c.if-asked-eq0-2.branch [
      | then-asked-eq0-2 w ↦ found_free s r need per states area found c.states-map.ensures area_is c.per_block-per_block.ensures.value
          a.policy (eq-eqb a.policy 0 w.if-asked-eq0-2.true)
          (subst (λ (f : Result (List Run) Refusal). ByRow (too_few_free need (free_block_count states area per)) (λ (runs : List Run). runs ≡ free_runs (is_free_at states) area per need) f)
          (sym w.found-is ∙ c.in-Err.is) w.free-found.ensures.answer)
      | else-asked-eq0-2 w ↦ found_together s r need per states area found c.states-map.ensures area_is c.per_block-per_block.ensures.value
          a.policy (ne_eqb a.policy 0 (λ e. omega (arith, e, w.if-asked-eq0-2.false)))
          (subst (λ (f : Result (List Run) Refusal). ByRow (too_few_free need (longest_free_run states area per)) (λ (runs : List Run). runs ≡ contiguous_runs (is_free_at states) area per need) f)
          (sym w.found-is ∙ c.in-Err.is) w.contiguous-found.ensures.answer)
    ]) in
    refused (length_rule s a) (λ (runs : List Run). runs ≡ length_runs s a) (λ (xs : List Extent). xs ≡ tagged_runs s a c.args.shareable (length_runs s a)) c.in-Err.refusal row
