use Rattle.std.{proofs.Common.◌≡◌, proofs.Common.◌++◌, proofs.Common.take, specs.List.flat_map}
use Rattle.journal_core.specs.Entries.{effects}
use Rattle.journal_check.specs.device_rules.specs.Counts.{records_of}
use Rattle.explainer.specs.Explanations.{left_record}
use Rattle.explainer.proofs.logs.write_left_in.Given as goal

-- The lines of the records so far are put.
abbrev pub invariant-loop-index : goal.invariant-loop-index
invariant-loop-index l = l.out ≡ l.fn.out ++ flat_map (left_record l.log) (take l.index (records_of l.log (effects l.control.entries)))
