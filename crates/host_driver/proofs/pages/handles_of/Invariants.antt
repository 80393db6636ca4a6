use Rattle.std.proofs.Common.{◌≡◌, map, take}
use Rattle.event_records.specs.declared.events.Event.{Event}
use Rattle.host_driver.proofs.pages.handles_of.Given as goal

abbrev pub invariant-loop-event : goal.invariant-loop-event
invariant-loop-event l = l.handles ≡ map (λ (e : Event). e.handle) (take l.event-index l.events)
