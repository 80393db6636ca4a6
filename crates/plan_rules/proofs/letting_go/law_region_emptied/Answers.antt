use Rattle.plan_rules.proofs.Emptying.{empties_regions}
use Rattle.plan_rules.proofs.letting_go.law_region_emptied.Goals as goal

pub returns : goal.returns
returns c = empties_regions
