use Rattle.std.proofs.Common.{◌∙◌, ◌++◌, drop, sym, ap, length, drop_at, drop-drop}
use Rattle.dcd_base.proofs.field_writing.put_bytes.Goals as goal

pub returns-clause-rest : goal.returns-clause-rest
returns-clause-rest c =
    let n = length c.args.part.now in
    let front = c.split_at_mut-rest.result.0.now in
    let part = c.copy_from_slice.new.self in
    let back = c.split_at_mut-front.result.1.now in
    sym (drop-drop n c.args.at (front ++ (part ++ back))) ∙ ap (drop n) (drop_at front (part ++ back) c.args.at c.split_at_mut-rest.ensures.front_len)
    ∙ drop_at part back n (ap length c.copy_from_slice.ensures.after)
    ∙ c.split_at_mut-front.ensures.back ∙ ap (drop n) c.split_at_mut-rest.ensures.back ∙ drop-drop n c.args.at c.args.out.now
