use Rattle.region_config.proofs.Faultless.{some_granules}
use Rattle.region_config.proofs.configuration.Config.granule_count.Goals as goal

pub returns-clause-some : goal.returns-clause-some
returns-clause-some c =
    let spec = rw c.layout.ensures.same at c.region-spec.ensures in
    rw (c.granule_size.ensures.value, spec) (some_granules c.args.self.now c.args.region (c.layout.ensures.sound.each c.args.region c.requires))
