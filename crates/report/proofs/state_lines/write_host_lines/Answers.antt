use Rattle.std.specs.List.{range_with_len}
use Rattle.journal_core.specs.Entries.{effects}
use Rattle.report.{specs.Texts.host_line, proofs.Parts.hosts_push, proofs.Parts.prints_each}
use Rattle.report.proofs.state_lines.write_host_lines.Goals as goal

pub loop-host-preserved : goal.loop-host-preserved
loop-host-preserved g c =
    prints_each (host_line c.args.control.now.config (effects c.args.control.now.entries)) (range_with_len 0 c.loop-host.host) c.loop-host.host
    c.loop-host.invariant c.write_host_line.ensures (hosts_push c.loop-host.host)
