use Rattle.std.proofs.Common.{◌≡◌, ◌<◌, ap, arith, length, subst, sym, ◌∙◌}
use Rattle.selection.specs.granule_map.specs.Blocks.{free_block_count}
use Rattle.journal_core.specs.Entries.{effects}
use Rattle.manager_commands.proofs.Reached.{regions_kept, total_kept}
use Rattle.device_commands.specs.device_rules.specs.Adding.{area_of, is_free_now, present, region_free_blocks}
use Rattle.control_core.{specs.Pasts.ByEveryPast, specs.Pasts.LiveControlled, proofs.Reading.free_blocks_told}
use Rattle.control_core.proofs.live.LiveControl.free_blocks.Goals as goal

pub granules_of-area-requires : goal.granules_of-area-requires
granules_of-area-requires c =
    let known : c.args.region < length c.self.inside.config.regions = subst (λ (d : LiveControlled). c.args.region < length d.config.regions) (sym c.self.view_is) c.requires in
    omega (arith, known, regions_kept c.self.inside.config c.self.invariant.journal c.self.inside.state c.self.invariant.kept)

pub free_blocks-requires : goal.free_blocks-requires
free_blocks-requires c =
    let long : length c.states.result.now.states ≡ length c.self.inside.state.granules.states = ap length c.states.ensures in
    record {
      some = c.per_block-per_block.ensures.some;
      whole = rw c.granules_of-area.ensures.count c.per_block-per_block.ensures.whole;
      within = omega (
        arith,
        long,
        c.granules_of-area.ensures.within,
        c.self.invariant.kept.granule_count,
        total_kept c.self.inside.config c.self.invariant.journal c.self.inside.state c.self.invariant.kept,
      );
    }

pub returns : goal.returns
returns c =
    let s = c.self.inside.state in
    let r = c.args.region in
    let known : r < length c.self.inside.config.regions = subst (λ (d : LiveControlled). r < length d.config.regions) (sym c.self.view_is) c.requires in
    let here : r < length s.present.regions = omega (arith, known, regions_kept c.self.inside.config c.self.invariant.journal s c.self.invariant.kept) in
    let area_is : c.granules_of-area.result ≡ area_of s.present r = λ i. record { first = c.granules_of-area.ensures.first i; count = c.granules_of-area.ensures.count i } in
    subst (λ (d : LiveControlled). ByEveryPast d (λ past. c.free_blocks.result ≡ region_free_blocks (present d.config (effects past)) (is_free_now d.config (effects past)) r)) c.self.view_is
    (λ past leads. c.free_blocks.ensures
    ∙ (λ i. free_block_count (c.states.ensures i) (area_is i) (c.per_block-per_block.ensures.value i))
    ∙ free_blocks_told c.self.inside.config past s leads.kept r here)
