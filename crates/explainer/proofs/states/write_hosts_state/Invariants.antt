use Rattle.std.{proofs.Common.◌≡◌, proofs.Common.◌++◌, specs.List.flat_map, specs.List.range_with_len}
use Rattle.journal_core.specs.Entries.{effects}
use Rattle.explainer.specs.Explanations.{host_state}
use Rattle.explainer.proofs.states.write_hosts_state.Given as goal

-- The lines of the hosts so far are put.
abbrev pub invariant-loop-host : goal.invariant-loop-host
invariant-loop-host l = l.out ≡ l.fn.out ++ flat_map (host_state l.control.config (effects l.control.entries)) (range_with_len 0 l.host)
