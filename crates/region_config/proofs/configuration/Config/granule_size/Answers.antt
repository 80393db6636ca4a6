use Rattle.region_config.proofs.Faultless.{granule_from, granule_to}
use Rattle.region_config.proofs.configuration.Config.granule_size.Goals as goal

pub smallest_size-requires : goal.smallest_size-requires
smallest_size-requires c =
    let spec = rw (c.layout.ensures.same, c.region.view_is) at c.region-2.ensures in
    rw spec (c.layout.ensures.sound.each c.args.region c.requires).sizes

pub returns-clause-from : goal.returns-clause-from
returns-clause-from c =
    let spec = rw (c.layout.ensures.same, c.region.view_is) at c.region-2.ensures in
    rw (c.smallest_size.ensures.value, spec) (granule_from c.args.self.now c.args.region (c.layout.ensures.sound.each c.args.region c.requires))

pub returns-clause-to : goal.returns-clause-to
returns-clause-to c =
    let spec = rw (c.layout.ensures.same, c.region.view_is) at c.region-2.ensures in
    rw (c.smallest_size.ensures.value, spec) (granule_to c.args.self.now c.args.region (c.layout.ensures.sound.each c.args.region c.requires))
