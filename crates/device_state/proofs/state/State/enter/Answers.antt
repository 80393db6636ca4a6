use Rattle.std.{proofs.Common.◌∙◌, proofs.Common.ap, proofs.Common.arith, proofs.Common.length, proofs.Common.sym, proofs.Common.subst, specs.Prelude.All, specs.Prelude.fold}
use Rattle.granule_map.specs.Tables.{cell_at}
use Rattle.extent_list.specs.media_map.specs.region_config.specs.{Configurations.Configuration, Granules.region_spec}
use Rattle.tag_refs.specs.Tables.{TagTable}
use Rattle.device_state.proofs.{Listed.lists_same, OfDevice.all_alike, OfDevice.alike-blocks}
use Rattle.device_state.specs.{EnteredLists.Fits, EnteredLists.counted, EnteredLists.lists_by, EnteredLists.tags_over, Updates.IsOfDevice, declared.state.State.State}
use Rattle.device_state.proofs.state.State.enter.Goals as goal

pub change_all-requires-clause-of_present : goal.change_all-requires-clause-of_present
change_all-requires-clause-of_present c =
    subst (λ (p : Configuration). All (IsOfDevice p) c.args.effects.now) (sym c.requires.present)
    (all_alike c.args.config.now _ (alike-blocks c.args.config.now (λ r. (region_spec c.args.self.now.present r).block)) c.args.effects.now c.requires.of_device)

pub list_all-requires-clause-fits : goal.list_all-requires-clause-fits
list_all-requires-clause-fits c =
    subst (λ lists. Fits c.args.config.now lists 1 c.args.effects.now) (sym (lists_same c.args.effects.now c.args.self.now c.change_all.new.self c.change_all.ensures.parts)) c.requires.fits

pub returns-clause-entered : goal.returns-clause-entered
returns-clause-entered c =
    let es = c.args.effects.now in
    let conf = c.args.config.now in
    let old = c.args.self.now in
    let first = c.change_all.ensures in
    let second = c.list_all.ensures in
    let third = c.count_changes.ensures in
    let same = lists_same es old c.change_all.new.self first.parts in
    record {
      present_is = ap (λ (s : State). s.present) third.kept ∙ ap (λ (s : State). s.present) second.kept ∙ first.present;
      host_count = third.counted.hosts ∙ second.listed.listed.hosts ∙ first.parts.hosts;
      granule_count = ap (λ (s : State). length s.granules.states) third.kept ∙ ap (λ (s : State). length s.granules.states) second.kept ∙ first.cells.granules;
      cells = λ g inside. ap (λ (s : State). cell_at s.granules g) third.kept ∙ ap (λ (s : State). cell_at s.granules g) second.kept ∙ first.cells.each g inside;
      holders_are = ap (λ (s : State). s.holders) third.kept ∙ ap (λ (s : State). s.holders) second.kept ∙ first.holders;
      manager_is = ap (λ (s : State). s.manager) third.kept ∙ ap (λ (s : State). s.manager) second.kept ∙ first.parts.manager;
      logs = λ h below. third.counted.logs h ∙ second.listed.listed.logs h ∙ first.parts.logs h below;
      lists = λ h below. third.counted.lists h (omega (arith, below, second.listed.listed.hosts, first.parts.hosts))
          ∙ (λ i. counted h es (second.listed.listed.lists_are i h))
          ∙ (λ i. counted h es (fold (lists_by conf h) (same i h) es));
      tags_are = ap (λ (s : State). s.tags.entries) third.kept ∙ second.listed.tags
          ∙ (λ i. tags_over conf (same i) (first.tags i).entries es);
    }
