use Rattle.std.proofs.Common.{◌∙◌, ap}
use Rattle.control_core.specs.device_rules.specs.Outcomes.{records_of_extents}
use Rattle.device_plain.proofs.ToldAlone.{logs_put, shown}
use Rattle.device_plain.proofs.alone.Alone.tell.Goals as goal

pub returns : goal.returns
returns c = λ c'.
    logs_put c' c.args.host (λ v. records_of_extents c.args.host v c.args.kind c.args.extents.now) c.args.self.now c.append_all.new.log c.as_slice-2.result.now
    (λ v are. c.as_slice-2.ensures ∙ c.in_ok-events.ensures v (shown v c.args.self.now.lists are) ∙ ap (records_of_extents c.args.host v c.args.kind) c.as_slice.ensures)
    c.append_all.result c.append_all.ensures.put c.append_all.ensures.full
