use Rattle.std.proofs.Common.{◌∙◌}
use Rattle.device_commands.proofs.OneRecord.{one_told}
use Rattle.device_commands.proofs.log_records.records_of_extents.Goals as goal

pub returns-in-len1 : goal.returns-in-len1
returns-in-len1 c = λ v has. c.of.ensures ∙ one_told c.args.host v c.args.kind c.event_for.result _ c.args.extents.now c.in-len1.len_at_least c.in-len1.len_below (c.event_for.ensures v has)
