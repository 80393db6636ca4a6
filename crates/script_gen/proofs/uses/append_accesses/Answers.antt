use Rattle.std.proofs.Common.{◌*◌, refl, sym, append-nil}
use Rattle.script_gen.{specs.Drawing.access_by, specs.Drawing.draws_after, proofs.Stepping.draws_more, proofs.Stepping.puts_more}
use Rattle.script_gen.proofs.uses.append_accesses.Goals as goal

pub loop-word-init : goal.loop-word-init
unfolding draws_after
loop-word-init c = record { lines = sym (append-nil _); draws = refl }

pub loop-word-preserved : goal.loop-word-preserved
loop-word-preserved c = record {
  lines = puts_more (λ i. access_by c.args.round c.args.host (draws_after c.args.draws.now (2 * i))) c.loop-word.word c.args.lines.now.items c.loop-word.lines.items c.append_access.new.lines.items c.loop-word.invariant.lines (rw c.loop-word.invariant.draws at c.in_ok-append_access.ensures.lines);
  draws = draws_more c.args.draws.now 2 c.loop-word.word c.loop-word.draws c.append_access.new.draws c.loop-word.invariant.draws c.in_ok-append_access.ensures.draws;
}
