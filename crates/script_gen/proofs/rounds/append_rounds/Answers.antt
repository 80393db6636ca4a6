use Rattle.std.proofs.Common.{◌*◌, refl, sym, append-nil}
use Rattle.script_gen.{specs.Drawing.draws_after, specs.Drawing.round_by, proofs.Stepping.draws_more, proofs.Stepping.puts_more}
use Rattle.script_gen.proofs.rounds.append_rounds.Goals as goal

pub loop-round-init : goal.loop-round-init
unfolding draws_after
loop-round-init c = record { lines = sym (append-nil _); draws = refl }

pub loop-round-preserved : goal.loop-round-preserved
loop-round-preserved c = record {
  lines = puts_more (λ k. round_by k (draws_after c.args.draws.now (128 * k))) c.loop-round.round c.args.lines.now.items c.loop-round.lines.items c.append_round.new.lines.items c.loop-round.invariant.lines (rw c.loop-round.invariant.draws at c.in_ok-append_round.ensures.lines);
  draws = draws_more c.args.draws.now 128 c.loop-round.round c.loop-round.draws c.append_round.new.draws c.loop-round.invariant.draws c.in_ok-append_round.ensures.draws;
}
