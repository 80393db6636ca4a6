use Rattle.script_codec.proofs.CoveringLaws.{runs_cover}
use Rattle.script_codec.proofs.laws.law_runs_cover.Goals as goal

pub returns : goal.returns
returns c = runs_cover
