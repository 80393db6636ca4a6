use Rattle.std.proofs.Common.{◌≡◌, rules, ◌%◌, ◌^◌, refl}
use Rattle.kept_journal.{specs.Slots.with_slot, specs.declared.slots.TheConstants.LENGTH, specs.declared.slots.TheConstants.START, proofs.CoderSteps.codes_then}
use Rattle.kept_journal.proofs.coding.Coder.set_extent.Goals as goal

pub returns-clause-slots : goal.returns-clause-slots
returns-clause-slots c =
    rw (c.set-3.ensures.slots, c.set_tag.ensures.slots, c.set-2.ensures.slots, c.set.ensures.slots, c.from.ensures) refl

pub returns-clause-coded : goal.returns-clause-coded
returns-clause-coded c = codes_then c.set.ensures.coded (codes_then c.set-2.ensures.coded (codes_then c.set_tag.ensures.coded c.set-3.ensures.coded))

pub returns-clause-back : goal.returns-clause-back
returns-clause-back c = λ slots.
    let x = c.args.extent.now in
    let small : x.sequence % 2 ^ 16 ≡ x.sequence = search rules in
    λ i. record { start = x.start; length = x.length; tag = c.set_tag.ensures.back (with_slot (with_slot slots START x.start) LENGTH x.length) i; sequence = small i }
