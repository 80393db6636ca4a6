use Rattle.std.proofs.Common.{length}
use Rattle.script_text.proofs.PrintedScripts.{hosts_more}
use Rattle.script_text.proofs.printing.write_hosts.Goals as goal

pub loop-host-preserved : goal.loop-host-preserved
loop-host-preserved c = hosts_more c.args.out.now c.loop-host.out c.write_host.new.out c.loop-host.host (length c.args.config.now.regions) c.args.config.now.bases c.loop-host.invariant c.in_ok-write_host.ensures
