use Rattle.std.proofs.Common.{length, arith}
use Rattle.region_config.proofs.Faultless.{granules_rise, lengths_of_sound, sizes_of_sound}
use Rattle.region_config.proofs.configuration.Config.granules_before.Goals as goal

pub granules_before-requires-clause-sizes : goal.granules_before-requires-clause-sizes
granules_before-requires-clause-sizes c = rw c.layout.ensures.same (sizes_of_sound c.args.self.now c.layout.ensures.sound)

pub granules_before-requires-clause-short : goal.granules_before-requires-clause-short
granules_before-requires-clause-short c = rw c.layout.ensures.same (lengths_of_sound c.args.self.now c.layout.ensures.sound)

pub overflow_cast-result : goal.overflow_cast-result
overflow_cast-result c =
    let first = rw c.layout.ensures.same at c.granules_before.ensures in
    omega (arith, first, granules_rise c.args.self.now c.args.region (length c.args.self.now.regions) c.requires, c.layout.ensures.sound.granules)

pub returns-clause-few : goal.returns-clause-few
returns-clause-few c =
    let first = rw c.layout.ensures.same at c.granules_before.ensures in
    omega (arith, first, granules_rise c.args.self.now c.args.region (length c.args.self.now.regions) c.requires, c.layout.ensures.sound.granules)
