use Rattle.std.proofs.Common.{[], ◌∷◌, sym, subst}
use Rattle.control_core.specs.device_rules.specs.Legal.{Exclusive}
use Rattle.journal_core.specs.Merging.{Rising, merged}
use Rattle.device_plain.{specs.Devices.Plain, proofs.Merged.accesses_rise, proofs.Merged.control_rises}
use Rattle.device_plain.proofs.device.Device.journal.Goals as goal

pub whole-requires-clause-control : goal.whole-requires-clause-control
whole-requires-clause-control c =
    let in_it = c.self.inside in
    subst Rising (sym c.entries.ensures.value) (control_rises in_it.control.config in_it.control.entries in_it.accesses.items in_it.words in_it.since c.self.invariant)

pub whole-requires-clause-accesses : goal.whole-requires-clause-accesses
whole-requires-clause-accesses c =
    let in_it = c.self.inside in
    subst Rising (sym c.as_slice.ensures.value) (accesses_rise in_it.control.config in_it.control.entries in_it.accesses.items in_it.words in_it.since c.self.invariant)

pub returns-clause-exclusive : goal.returns-clause-exclusive
returns-clause-exclusive c =
    subst (λ (d : Plain). Exclusive d.config d.journal) c.self.view_is
    (c.law_exclusive.ensures c.self.inside.control.config c.self.invariant.keeps.sound (merged c.self.inside.control.entries (c.self.inside.accesses.items ∷ [])) c.self.invariant.keeps.legal)
