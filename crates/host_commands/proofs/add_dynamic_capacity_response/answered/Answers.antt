use Rattle.std.proofs.Common.{◌∙◌, ◌∷◌, [], ap, map}
use Rattle.cci_codec.specs.dcd_base.specs.declared.steps.LogId.{LogId}
use Rattle.event_records.specs.declared.events.EventKind.{EventKind}
use Rattle.extent_list.specs.ExtentLists.{tags_of}
use Rattle.device_commands.specs.{device_rules.specs.Outcomes.records_of_extents, Drafts.as_records}
use Rattle.host_commands.{specs.AddDynamicCapacityResponse.told_extents, proofs.AddDynamicCapacityResponse.told_each}
use Rattle.host_commands.proofs.add_dynamic_capacity_response.answered.Goals as goal

pub returns : goal.returns
returns c =
    let h = c.args.host in
    record {
      payload = c.new.ensures;
      changes_are = c.in_ok-append_answer.ensures;
      tags_are = c.in_ok-tags.ensures ∙ ap tags_of c.oldest.ensures;
      log_records = λ w. ap (map (as_records w)) c.in_ok-log_records.ensures
          ∙ ap (λ xs. (LogId.Manager, records_of_extents h w EventKind.AddResponse (told_extents xs)) ∷ []) c.as_slice.ensures
          ∙ ap (λ events. (LogId.Manager, events) ∷ []) (told_each h w c.args.accepted);
    }
