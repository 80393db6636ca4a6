use Rattle.std.proofs.Common.{◌≡◌, ◌∷◌, [], rules}
use Rattle.threads_tests.proofs.TallySteps.{pair_all}
use Rattle.threads_tests.proofs.runs.closed.Goals as goal

pub close-requires : goal.close-requires
close-requires c =
    let r = c.requires in
    let is : c.push-2.new.self.items ≡ c.args.one ∷ c.args.two ∷ [] = search rules in
    pair_all c.args.cells c.args.one c.args.two c.push-2.new.self.items is r.of.0 r.of.1 r.of.2 r.numbers.0 r.numbers.1 r.no_turns.0 r.no_turns.1
