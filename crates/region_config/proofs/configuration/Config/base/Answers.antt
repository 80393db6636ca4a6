use Rattle.region_config.proofs.Faultless.{region_ends}
use Rattle.region_config.proofs.configuration.Config.base.Goals as goal

pub returns-clause-ends : goal.returns-clause-ends
returns-clause-ends c =
    let at_base = rw (c.layout.ensures.same, c.host.view_is, c.region.view_is) at c.base.ensures in
    rw at_base (region_ends c.args.self.now c.args.host c.args.region c.layout.ensures.sound c.requires.host c.requires.region)
