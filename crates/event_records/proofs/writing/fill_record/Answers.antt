use Rattle.std.proofs.Common.{rules, sym, ◌∙◌}
use Rattle.dcd_base.proofs.Filling.{filled}
use Rattle.event_records.proofs.Records.{record_in_parts}
use Rattle.event_records.proofs.writing.fill_record.Goals as goal

pub returns : goal.returns
returns c =
    filled 128 (search rules) (c.put_end.ensures ∙ rw (c.put_extent.ensures.put, c.put_head.ensures) (sym (record_in_parts c.args.event.now)))
