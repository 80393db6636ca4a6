use Rattle.std.proofs.{Common.◌≡◌, Common.IfOk, Common.subst, Common.take, lemmas.List.take_min}
use Rattle.host_driver.proofs.asking.first_handles.Goals as goal

pub returns : goal.returns
returns c =
    let front : c.split_at.result.0.now ≡ take 255 c.args.handles.now =
    rw (c.split_at.ensures.front, c.min.ensures, c.len.ensures, c.as_slice.ensures) (take_min 255 c.args.handles.now) in
    subst (λ xs. IfOk c.of_slice.result (λ first. first ≡ xs)) front c.of_slice.ensures
