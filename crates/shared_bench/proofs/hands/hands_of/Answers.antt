use Rattle.std.{proofs.Common.List, proofs.Common.subst, specs.List.All, specs.Vec.Iter.into_iter_items, proofs.lemmas.List.Elements.All-tail}
use Rattle.shared_device.specs.{declared.pass.Pass.Pass, Passing.IsOneOf}
use Rattle.shared_bench.proofs.hands.hands_of.Goals as goal

pub loop-pass-preserved : goal.loop-pass-preserved
loop-pass-preserved c =
    let left = into_iter_items c.next.new.self in
    All-tail (λ p. IsOneOf c.args.shared.now p) c.in-Some.pass left
    (subst (λ (ps : List Pass). All (λ p. IsOneOf c.args.shared.now p) ps) c.in-Some.ensures.steps.0 c.loop-pass.invariant)
