use Rattle.std.proofs.Common.{◌∙◌, ◌∷◌, [], ap, map, refl}
use Rattle.event_records.specs.dcd_base.specs.declared.steps.LogId.{LogId}
use Rattle.extent_list.specs.ExtentLists.{tags_of}
use Rattle.device_state.specs.device_rules.specs.Outcomes.{records_of_extents}
use Rattle.device_commands.specs.Drafts.{as_records}
use Rattle.manager_commands.proofs.initiate_dynamic_capacity_release.removal_draft.Goals as goal

pub returns : goal.returns
returns c = record {
  payload = c.new.ensures;
  changes_are = refl;
  tags_are = c.in_ok-tags.ensures ∙ ap tags_of c.as_slice-extents.ensures;
  log_records = λ w. ap (map (as_records w)) c.in_ok-log_records.ensures
      ∙ ap (λ xs. (LogId.Host c.args.host, records_of_extents c.args.host w c.args.kind xs) ∷ []) c.as_slice-extents.ensures;
}
