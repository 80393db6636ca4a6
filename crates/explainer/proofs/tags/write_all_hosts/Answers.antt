use Rattle.std.proofs.Common.{◌≡◌, ◌++◌, ap, ◌∙◌, arith}
use Rattle.explainer.{specs.PartWords.hosts_below, proofs.ReplyLists.no_host, proofs.ReplyLists.one_host}
use Rattle.explainer.proofs.tags.write_all_hosts.Goals as goal

pub loop-host-init : goal.loop-host-init
loop-host-init c = no_host c.args.hosts c.args.out.now

pub loop-host-preserved : goal.loop-host-preserved
loop-host-preserved c = one_host c.args.hosts c.loop-host.host c.args.out.now c.loop-host.out c.write_host_where.new.out c.loop-host.invariant c.in_ok-write_host_where.ensures

pub returns : goal.returns
returns c = let e : c.loop-host.host ≡ 16 = omega arith in c.loop-host.invariant ∙ ap (λ n. c.args.out.now ++ hosts_below c.args.hosts n) e
