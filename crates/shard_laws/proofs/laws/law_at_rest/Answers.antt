use Rattle.shard_laws.proofs.AtRest.{rests_lawful}
use Rattle.shard_laws.proofs.laws.law_at_rest.Goals as goal

pub returns : goal.returns
returns g c = rests_lawful g.F.Chief.reads
