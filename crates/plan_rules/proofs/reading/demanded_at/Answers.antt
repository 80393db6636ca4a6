use Rattle.std.proofs.Common.{codes}
use Rattle.serde_json.specs.View.{view}
use Rattle.plan_rules.{specs.DemandTexts.IsArrayOf, specs.DemandTexts.StatesDemand, proofs.Telling.member_told}
use Rattle.plan_rules.proofs.reading.demanded_at.Goals as goal

pub returns-in-Some : goal.returns-in-Some
returns-in-Some c = member_told (IsArrayOf StatesDemand) (view c.args.value.now) (codes "demands") _ _ c.in-Some.ensures c.demands_in.ensures
