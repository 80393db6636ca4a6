use Rattle.std.proofs.Common.{length}
use Rattle.script_text.specs.{Layouts.hosts_parts, Printing.AddsLines}
use Rattle.script_text.proofs.printing.write_hosts.Given as goal

abbrev pub invariant-loop-host : goal.invariant-loop-host
invariant-loop-host l = AddsLines l.fn.out l.out (hosts_parts l.host 0 (length l.config.regions) l.config.bases)
