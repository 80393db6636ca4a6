use Rattle.std.proofs.Common.{◌≡◌, rules, refl, ◌%◌, ◌^◌}
use Rattle.kept_journal.{specs.Slots.telling_what, proofs.CoderSteps.codes_then, proofs.EventSlots.event_back}
use Rattle.kept_journal.proofs.coding.Coder.set_event.Goals as goal

pub returns-clause-slots : goal.returns-clause-slots
returns-clause-slots c =
    rw (c.set-2.ensures.slots, c.set.ensures.slots, c.set_extent.ensures.slots, c.set_what.ensures.slots, c.from.ensures, c.from-2.ensures) refl

pub returns-clause-coded : goal.returns-clause-coded
returns-clause-coded c = codes_then c.set_what.ensures.coded (codes_then c.set_extent.ensures.coded (codes_then c.set.ensures.coded c.set-2.ensures.coded))

pub returns-clause-back : goal.returns-clause-back
returns-clause-back c = λ slots.
    let e = c.args.event.now in
    let extents : e.extents_available % 2 ^ 32 ≡ e.extents_available = search rules in
    let tags : e.tags_available % 2 ^ 32 ≡ e.tags_available = search rules in
    event_back slots e c.set_what.ensures.back (c.set_extent.ensures.back (telling_what slots e)) extents tags
