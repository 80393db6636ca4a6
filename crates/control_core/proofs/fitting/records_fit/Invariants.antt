use Rattle.std.proofs.Common.{ℕ, ◌<◌, get_or}
use Rattle.event_records.specs.declared.events.Event.{Event}
use Rattle.control_core.specs.Fitting.{TagFits}
use Rattle.control_core.proofs.fitting.records_fit.Given as goal

abbrev pub invariant-loop-index : goal.invariant-loop-index
invariant-loop-index l = (k : ℕ) (d : Event) → k < l.index → TagFits (get_or l.log.records k d).extent.tag
