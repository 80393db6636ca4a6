use Rattle.std.proofs.Common.{◌*◌, refl, sym, append-nil}
use Rattle.script_gen.{specs.Drawing.draws_after, specs.Drawing.use_by, proofs.Stepping.draws_more, proofs.Stepping.puts_more}
use Rattle.script_gen.proofs.uses.append_uses.Goals as goal

pub loop-host-init : goal.loop-host-init
unfolding draws_after
loop-host-init c = record { lines = sym (append-nil _); draws = refl }

pub loop-host-preserved : goal.loop-host-preserved
loop-host-preserved c = record {
  lines = puts_more (λ h. use_by c.args.round h (draws_after c.args.draws.now (32 * h))) c.loop-host.host c.args.lines.now.items c.loop-host.lines.items c.append_use.new.lines.items c.loop-host.invariant.lines (rw c.loop-host.invariant.draws at c.in_ok-append_use.ensures.lines);
  draws = draws_more c.args.draws.now 32 c.loop-host.host c.loop-host.draws c.append_use.new.draws c.loop-host.invariant.draws c.in_ok-append_use.ensures.draws;
}
