use Rattle.std.proofs.Common.{codes}
use Rattle.serde_json.specs.View.{view}
use Rattle.plan_rules.{specs.DemandTexts.IsArrayOf, specs.DemandTexts.IsWhole, proofs.Telling.member_told}
use Rattle.plan_rules.proofs.reading.dead_at.Goals as goal

pub returns-in-Some : goal.returns-in-Some
returns-in-Some c = member_told (IsArrayOf IsWhole) (view c.args.value.now) (codes "dead") _ _ c.in-Some.ensures c.numbers_in.ensures
