use Rattle.std.proofs.Common.{◌++◌, ◌∷◌, [], arith, sym, ◌∙◌}
use Rattle.manager_commands.proofs.TaggedRuns.{tagged_more}
use Rattle.manager_commands.proofs.choosing.tagged_runs.Goals as goal

pub loop-i-preserved : goal.loop-i-preserved
loop-i-preserved c = record {
  put =
      c.push_reserved.ensures.items
      ∙ (λ j. c.loop-i.invariant.put j ++ c.tagged_run.ensures j ∷ [])
      ∙ sym (tagged_more c.args.state.now c.args.asked.now c.args.shareable c.args.runs.now c.loop-i.i c.index-runs-i.result c.loop-i-test.true c.index-runs-i.is);
  room = omega (arith, c.loop-i.invariant.room, c.push_reserved.ensures.len, c.push_reserved.ensures.capacity, c.loop-i-test.true);
}
