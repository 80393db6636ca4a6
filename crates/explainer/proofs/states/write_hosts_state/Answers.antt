use Rattle.std.{proofs.Common.◌+◌, specs.List.range_with_len}
use Rattle.journal_core.specs.Entries.{effects}
use Rattle.journal_check.specs.report.proofs.Parts.{hosts_push}
use Rattle.explainer.{specs.Explanations.host_state, proofs.Lists.member_more}
use Rattle.explainer.proofs.states.write_hosts_state.Goals as goal

pub loop-host-preserved : goal.loop-host-preserved
loop-host-preserved c =
    let host = c.loop-host.host in
    member_more (host_state c.args.control.now.config (effects c.args.control.now.entries)) c.args.out.now c.loop-host.out c.write_host_state.new.out (range_with_len 0 host)
    (range_with_len 0 (host + 1)) host c.loop-host.invariant c.in_ok-write_host_state.ensures (hosts_push host)
