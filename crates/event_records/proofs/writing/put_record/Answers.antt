use Rattle.std.proofs.Common.{◌∙◌, ◌++◌, ap, arith, drop, drop-drop, drop_at, sym}
use Rattle.event_records.proofs.writing.put_record.Goals as goal

pub returns-clause-rest : goal.returns-clause-rest
returns-clause-rest c =
    let front = c.split_at_mut-rest.result.0.now in
    let bytes = c.fill_record.new.out in
    let back = c.split_at_mut-front.result.1.now in
    sym (drop-drop 128 c.args.at (front ++ (bytes ++ back))) ∙ ap (drop 128) (drop_at front (bytes ++ back) c.args.at c.split_at_mut-rest.ensures.front_len)
    ∙ drop_at bytes back 128 (omega (arith, c.fill_record.auto.out, c.split_at_mut-front.ensures.front_len))
    ∙ c.split_at_mut-front.ensures.back ∙ ap (drop 128) c.split_at_mut-rest.ensures.back ∙ drop-drop 128 c.args.at c.args.out.now
