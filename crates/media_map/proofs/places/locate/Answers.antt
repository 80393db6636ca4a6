use Rattle.std.proofs.Common.{◌∙◌, Ok, ap, sym}
use Rattle.media_map.proofs.PlaceLemmas.{address_back, at_no_region, at_region, is_place, is_word, located}
use Rattle.media_map.proofs.places.locate.Goals as goal

pub returns-in-Some-clause-only : goal.returns-in-Some-clause-only
returns-in-Some-clause-only c = λ p at.
    ap (λ q. Ok q) c.place_in.ensures
    ∙ sym (at_region c.args.config.now c.args.host c.args.dpa c.in-Some.region c.if-dpa-ne0.false (sym c.region_at.ensures.value ∙ c.in-Some.is))
    ∙ located c.args.config.now c.args.host c.args.dpa p c.region_at.ensures.sound c.requires at

pub returns-in-Some-clause-word : goal.returns-in-Some-clause-word
returns-in-Some-clause-word c =
    let placed = is_place c.args.config.now c.args.host c.args.dpa c.in-Some.region c.if-dpa-ne0.false c.in-Some.ensures.known c.in-Some.ensures.within in
    rw c.place_in.ensures (is_word c.args.config.now c.args.host c.region_at.ensures.sound c.requires c.args.dpa _ placed)

pub returns-in-Some-clause-back : goal.returns-in-Some-clause-back
returns-in-Some-clause-back c =
    let placed = is_place c.args.config.now c.args.host c.args.dpa c.in-Some.region c.if-dpa-ne0.false c.in-Some.ensures.known c.in-Some.ensures.within in
    rw c.place_in.ensures (address_back c.args.config.now c.args.host c.region_at.ensures.sound c.requires c.args.dpa _ placed)

pub returns-in-None-clause-only : goal.returns-in-None-clause-only
returns-in-None-clause-only c = λ p at.
    sym (at_no_region c.args.config.now c.args.host c.args.dpa c.if-dpa-ne0.false (sym c.region_at.ensures.value ∙ c.in-None.is))
    ∙ located c.args.config.now c.args.host c.args.dpa p c.region_at.ensures.sound c.requires at
