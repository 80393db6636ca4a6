use Rattle.std.proofs.Common.{◌*◌, ◌++◌, ◌∙◌, List, ap, drop, flat_map, length, refl, rules, sym}
use Rattle.event_records.specs.{Records.record_bytes, declared.events.Event.Event}
use Rattle.journal_core.specs.Entries.{effects}
use Rattle.device_plain.specs.device_rules.specs.Counts.{records_of}
use Rattle.dcd_c.proofs.RecordSteps.{log_told}
use Rattle.dcd_c.proofs.lists.put_records.Goals as goal

pub returns-then-bytes-room : goal.returns-then-bytes-room
returns-then-bytes-room c = (
  refl,
  search rules,
  λ life leads.
      let same = log_told c.args.device.now c.control.result.now c.control.ensures.config c.control.ensures.pasts c.args.log c.log-kept.result.now c.log-kept.ensures life leads in
      ap (λ k. k * 128) (c.record_count-bytes.ensures.count ∙ ap (λ (rs : List Event). length rs) same),
)

pub returns : goal.returns
returns c = λ life leads.
    let same = log_told c.args.device.now c.control.result.now c.control.ensures.config c.control.ensures.pasts c.args.log c.log-kept.result.now c.log-kept.ensures life leads in
    let count = c.record_count-bytes.ensures.count in (
      ap (λ k. k * 128) (count ∙ ap (λ (rs : List Event). length rs) same),
      c.put_all.ensures
          ∙ ap (λ (rs : List Event). flat_map record_bytes rs ++ drop (length c.log-kept.result.now.records * 128) c.args.room.now) same
          ∙ ap (λ k. flat_map record_bytes (records_of c.args.log (effects life)) ++ drop (k * 128) c.args.room.now) (sym count),
    )
