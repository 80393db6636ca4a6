use Rattle.std.{proofs.Common.◌≡◌, proofs.Common.◌++◌, specs.List.flat_map, specs.List.range_with_len}
use Rattle.dcd_base.specs.declared.steps.LogId.{LogId}
use Rattle.journal_core.specs.Entries.{effects}
use Rattle.explainer.specs.Explanations.{left_in_log}
use Rattle.explainer.proofs.logs.write_left_for_hosts.Given as goal

-- The records of the hosts so far are put.
abbrev pub invariant-loop-host : goal.invariant-loop-host
invariant-loop-host l = l.out ≡ l.fn.out ++ flat_map (λ h. left_in_log (effects l.control.entries) (LogId.Host h)) (range_with_len 0 l.host)
