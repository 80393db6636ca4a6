use Rattle.media_map.proofs.RunLemmas.{run_told}
use Rattle.media_map.proofs.runs.run_of.Goals as goal

pub returns-clause-back : goal.returns-clause-back
returns-clause-back c = run_told c.args.config.now c.args.host c.args.start c.args.length c.granular_run.ensures.sound c.requires _ c.granular_run.ensures.value
