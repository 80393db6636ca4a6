use Rattle.std.proofs.Common.{◌++◌, ap, refl, ◌∙◌}
use Rattle.fm_payloads.specs.ManagerPayloads.{info_payload}
use Rattle.journal_core.specs.Entries.{effects}
use Rattle.manager_commands.proofs.{Drafting.payload_alone, FreeGranules.dirty_counted, FreeGranules.free_counted}
use Rattle.manager_commands.proofs.get_dcd_info.get_info.Goals as goal

pub returns : goal.returns
returns c journal legal kept =
    let cfg = c.args.config.now in
    let table = c.args.state.now.granules in
    let free = c.free-free.ensures ∙ free_counted cfg (effects journal) table kept.granule_count kept.cells in
    let dirty = c.dirty-dirty.ensures ∙ dirty_counted cfg (effects journal) table kept.granule_count kept.cells in (
      refl,
      payload_alone _ _ c.only.result c.only.ensures
          (c.in_ok-write_info.ensures.appended ∙ ap (λ bytes. bytes ++ info_payload c.hosts.result c.granules.result c.free-free.result c.dirty-dirty.result c.as_slice.result.now) c.new-payload.ensures
          ∙ (λ i. info_payload (c.hosts.ensures.value i) (c.granules.ensures.value i) (free i) (dirty i) ((c.as_slice.ensures.value ∙ c.sizes_of-sizes.ensures.sizes) i))),
    )
