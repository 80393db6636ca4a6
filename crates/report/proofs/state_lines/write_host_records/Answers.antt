use Rattle.std.specs.List.{range_with_len}
use Rattle.dcd_base.specs.declared.steps.LogId.{LogId}
use Rattle.journal_core.specs.Entries.{effects}
use Rattle.report.{specs.Texts.record_lines, proofs.Parts.hosts_push, proofs.Parts.prints_each}
use Rattle.report.proofs.state_lines.write_host_records.Goals as goal

pub loop-host-preserved : goal.loop-host-preserved
loop-host-preserved g c =
    prints_each (λ h. record_lines (effects c.args.control.now.entries) (LogId.Host h)) (range_with_len 0 c.loop-host.host) c.loop-host.host
    c.loop-host.invariant c.write_log_records.ensures (hosts_push c.loop-host.host)
