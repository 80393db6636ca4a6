use Rattle.threads_tests.proofs.TallySteps.{last_at}
use Rattle.script_runner.specs.shared_device.specs.ruled_cells.proofs.ClosingSteps.{in_front}
use Rattle.threads_tests.proofs.runs.made.Goals as goal

pub returns-clause-two : goal.returns-clause-two
returns-clause-two c = let l = last_at c.in-Ok.seats.items c.pop.new.self.items c.in-Some.two 1 c.in-Some.ensures.items c.in-Ok.ensures.count in c.in-Ok.ensures.each 1 c.in-Some.two l.0

pub returns-clause-one : goal.returns-clause-one
returns-clause-one c =
    let l = last_at c.in-Ok.seats.items c.pop.new.self.items c.in-Some.two 1 c.in-Some.ensures.items c.in-Ok.ensures.count in
    let m = last_at c.pop.new.self.items c.pop-2.new.self.items c.in-Some-pop.one 0 c.in-Some-pop.ensures.items l.1 in
    c.in-Ok.ensures.each 0 c.in-Some-pop.one (in_front c.in-Ok.seats.items c.pop.new.self.items c.in-Some.two c.in-Some.ensures.items 0 c.in-Some-pop.one m.0)
