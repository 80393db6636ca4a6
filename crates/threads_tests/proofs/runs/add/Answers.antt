use Rattle.std.proofs.Common.{◌≡◌, ◌+◌, ◌∷◌, [], ◌++◌, rules}
use Rattle.threads_tests.{specs.Tally.above_both, proofs.TallySteps.added}
use Rattle.threads_tests.proofs.runs.add.Goals as goal

pub returns : goal.returns
returns c =
    let a = c.access-entry.ensures in
    let pushed : c.push.new.self ≡ c.counter.inside.entries ++ c.access-entry.result ∷ [] = search rules in
    let above : record { number = c.max.result; count = c.max-2.result + 1 } ≡ above_both c.args.seen c.args.counter.clock = search rules in
    added c.args.pass c.args.seen _ c.args.counter c.counter.inside.index c.counter.inside.value c.counter.inside.entries c.push.new.self c.counter.inside.clock c.access-entry.result c.counter.view_is pushed a.3 above a.2 a.0 a.1
