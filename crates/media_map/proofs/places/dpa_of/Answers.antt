use Rattle.std.proofs.Common.{◌∙◌}
use Rattle.media_map.proofs.PlaceLemmas.{address_below, addressed, located, same_offset, words_apart}
use Rattle.media_map.proofs.places.dpa_of.Goals as goal

pub returns-clause-below : goal.returns-clause-below
returns-clause-below c = rw c.address_of.ensures.value (address_below c.args.config.now c.args.host c.address_of.ensures.sound c.requires.host c.args.place.now c.requires.word)

pub returns-clause-placed : goal.returns-clause-placed
returns-clause-placed c = rw c.address_of.ensures.value (addressed c.args.config.now c.args.host c.address_of.ensures.sound c.requires.host c.args.place.now c.requires.word)

pub returns-clause-back : goal.returns-clause-back
returns-clause-back c =
    let sound = c.address_of.ensures.sound in
    rw c.address_of.ensures.value
    (located c.args.config.now c.args.host _ c.args.place.now sound c.requires.host (addressed c.args.config.now c.args.host sound c.requires.host c.args.place.now c.requires.word))

pub returns-clause-apart : goal.returns-clause-apart
returns-clause-apart c = λ other word same.
    words_apart c.args.config.now c.args.host c.address_of.ensures.sound c.requires.host c.args.place.now other c.requires.word word (same ∙ c.address_of.ensures.value)

pub returns-clause-same : goal.returns-clause-same
returns-clause-same c = λ other known.
    rw c.address_of.ensures.value (same_offset c.args.config.now c.args.host other c.args.place.now c.address_of.ensures.sound c.requires.host known c.requires.word)
