use Rattle.std.proofs.Common.{◌∙◌, ◌<◌, length, sym}
use Rattle.region_config.proofs.Blocks.{still_faultless}
use Rattle.region_config.proofs.configuration.Config.set_block_size.Goals as goal

pub invariant_of-self : goal.invariant_of-self
invariant_of-self c =
    let known : c.region.inside.0 < length c.self.inside.layout.regions = rw (c.self.view_is, c.region.view_is) c.requires in
    rw c.set_block.ensures (still_faultless c.self.inside.layout c.region.inside.0 c.args.block known c.self.invariant (rw c.region-spec.ensures at (sym c.supports.ensures ∙ c.if-not-supports.false)))
