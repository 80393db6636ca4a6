use Rattle.std.proofs.Common.{refl}
use Rattle.region_config.proofs.GranuleLemmas.{of_region}
use Rattle.media_map.proofs.RunLemmas.{ends_below, range_back}
use Rattle.media_map.proofs.runs.extent_of.Goals as goal

pub returns-clause-ends : goal.returns-clause-ends
returns-clause-ends c =
    let of = of_region c.args.config.now c.args.run.now.first c.requires.run.known in
    rw (c.range_of-range.ensures.start, c.range_of-range.ensures.bytes)
    (ends_below c.args.config.now c.args.host c.range_of-range.ensures.sound c.requires.host c.args.run.now _ of.known refl of.from c.requires.run)

pub returns-clause-back : goal.returns-clause-back
returns-clause-back c =
    let of = of_region c.args.config.now c.args.run.now.first c.requires.run.known in
    rw (c.range_of-range.ensures.start, c.range_of-range.ensures.bytes)
    (range_back c.args.config.now c.args.host c.range_of-range.ensures.sound c.requires.host c.args.run.now _ of.known refl of.from c.requires.run)
