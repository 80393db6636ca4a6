use Rattle.std.proofs.Common.{◌*◌, ◌++◌, ◌∙◌, ap, drop, rules, sym, take}
use Rattle.event_records.specs.Records.{record_bytes}
use Rattle.dcd_c.proofs.{Filling.drop_on, Filling.flat_more, BaseSteps.base_next}
use Rattle.dcd_c.proofs.lists.put_all.Goals as goal

pub loop-i-preserved : goal.loop-i-preserved
loop-i-preserved c =
    let i = c.loop-i.i in
    let next = base_next i 128 in
    record {
      put = ap (λ n. take n c.put_record.new.out) next ∙ c.put_record.ensures.put ∙ (λ j. c.loop-i.invariant.put j ++ record_bytes c.at.result) ∙ sym (flat_more record_bytes c.args.log.now.records i c.at.result c.at.ensures);
      rest = ap (λ n. drop n c.put_record.new.out) next ∙ c.put_record.ensures.rest ∙ drop_on c.loop-i.room c.args.room.now (i * 128) 128 c.loop-i.invariant.rest ∙ ap (λ n. drop n c.args.room.now) (sym next);
      size = search rules;
    }
