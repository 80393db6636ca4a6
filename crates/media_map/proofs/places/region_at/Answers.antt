use Rattle.std.proofs.Common.{◌∙◌, length, sym, arith}
use Rattle.region_config.proofs.GranuleLemmas.{find_range}
use Rattle.media_map.{specs.Places.has_address, proofs.PlaceLemmas.find_none}
use Rattle.media_map.proofs.places.region_at.Goals as goal

pub returns-then-has_address-clause-value : goal.returns-then-has_address-clause-value
returns-then-has_address-clause-value c =
    let known = rw c.regions-number-end.ensures.value at c.loop-number-test.true in
    sym (find_range (has_address c.args.config.now c.args.host c.args.dpa) 0 (length c.args.config.now.regions) c.loop-number.number (omega arith) (omega (arith, known))
    (sym c.has_address.ensures.value ∙ c.if-has_address.true) (λ k low high. c.loop-number.invariant k high))

pub returns-clause-value : goal.returns-clause-value
returns-clause-value c = sym (find_none (has_address c.args.config.now c.args.host c.args.dpa) 0 (length c.args.config.now.regions) (λ k low high. c.loop-number.invariant k (omega (arith, high, c.loop-number-test.false, c.regions-number-end.ensures.value))))
