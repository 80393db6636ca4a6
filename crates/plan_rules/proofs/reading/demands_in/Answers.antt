use Rattle.plan_rules.{specs.DemandTexts.StatesDemand, proofs.Telling.array_told}
use Rattle.plan_rules.proofs.reading.demands_in.Goals as goal

pub returns-in-Some : goal.returns-in-Some
returns-in-Some c = array_told StatesDemand _ _ _ c.in-Some.ensures (rw c.as_slice.ensures.value at c.each_demand.ensures)
