use Rattle.std.proofs.Common.{◌<◌, subst}
use Rattle.region_config.specs.{Configurations.Configuration, Granules.granule_total}
use Rattle.device_plain.proofs.ZeroedWords.{word_inside}
use Rattle.device_plain.proofs.live_accesses.granted.Goals as goal

pub holds-requires-clause-granule : goal.holds-requires-clause-granule
holds-requires-clause-granule c =
    subst (λ (k : Configuration). c.in-Ok.place.granule < granule_total k) c.first_config.ensures (word_inside c.first_config.result.now c.in-Ok.place c.in-Ok.ensures.word)
