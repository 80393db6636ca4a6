use Rattle.std.proofs.Common.{◌≡◌, ◌++◌}
use Rattle.explainer.specs.PartWords.{hosts_below}
use Rattle.explainer.proofs.tags.write_all_hosts.Given as goal

abbrev pub invariant-loop-host : goal.invariant-loop-host
invariant-loop-host l = l.out ≡ l.fn.out ++ hosts_below l.hosts l.host
