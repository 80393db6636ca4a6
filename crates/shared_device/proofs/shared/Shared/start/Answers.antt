use Rattle.std.proofs.Common.{◌≡◌, rules}
use Rattle.shared_device.{specs.Commanding.actors_of, proofs.NewPasses.by_same_actors}
use Rattle.shared_device.proofs.shared.Shared.start.Goals as goal

pub returns-clause-each : goal.returns-clause-each
returns-clause-each c = λ k p at.
    let same : c.as_slice.result.now ≡ actors_of c.args.config c.args.lanes = search rules in
    by_same_actors _ _ _ k p same (c.in_ok-passes.ensures.each k p at)
