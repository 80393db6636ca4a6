use Rattle.std.{proofs.Common.◌+◌, specs.List.range_with_len}
use Rattle.dcd_base.specs.declared.steps.LogId.{LogId}
use Rattle.journal_core.specs.Entries.{effects}
use Rattle.journal_check.specs.report.proofs.Parts.{hosts_push}
use Rattle.explainer.{specs.Explanations.left_in_log, proofs.Lists.member_more}
use Rattle.explainer.proofs.logs.write_left_for_hosts.Goals as goal

pub loop-host-preserved : goal.loop-host-preserved
loop-host-preserved c =
    let host = c.loop-host.host in
    member_more (λ h. left_in_log (effects c.args.control.now.entries) (LogId.Host h)) c.args.out.now c.loop-host.out c.write_left_in.new.out (range_with_len 0 host)
    (range_with_len 0 (host + 1)) host c.loop-host.invariant c.in_ok-write_left_in.ensures (hosts_push host)
