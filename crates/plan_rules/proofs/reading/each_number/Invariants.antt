use Rattle.std.specs.{Prelude.map, Prelude.take, List.AllZip}
use Rattle.serde_json.specs.View.{view}
use Rattle.plan_rules.specs.DemandTexts.{IsWhole}
use Rattle.plan_rules.proofs.reading.each_number.Given as goal

abbrev pub invariant-loop-value : goal.invariant-loop-value
invariant-loop-value l = AllZip IsWhole (map view (take l.value-index l.values)) l.numbers
