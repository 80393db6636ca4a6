use Rattle.std.proofs.Common.{ℕ, [], ◌∷◌, false, ◌∙◌, ap}
use Rattle.control_core.specs.device_rules.specs.Outcomes.{record_for, no_extent}
use Rattle.event_records.specs.declared.events.{Event.Event, EventKind.EventKind}
use Rattle.device_plain.{specs.Telling.resized, proofs.ToldAlone.logs_put, proofs.ToldAlone.shown}
use Rattle.device_plain.proofs.alone.Alone.tell_size.Goals as goal

pub returns : goal.returns
returns c = λ c'.
    logs_put c' c.args.host (resized c.args.host c.args.region) c.args.self.now c.append_all.new.log (record c.event_for-event.result { region = c.region.inside.0 } ∷ [])
    (λ v are.
    ap (λ (e : Event). record e { region = c.region.inside.0 } ∷ []) (c.event_for-event.ensures v (shown v c.args.self.now.lists are) ∙ ap (record_for c.args.host v EventKind.RegionUpdated false) c.no_extent.ensures)
    ∙ ap (λ (n : ℕ). record (record_for c.args.host v EventKind.RegionUpdated false no_extent) { region = n } ∷ []) c.region.view_is)
    c.append_all.result c.append_all.ensures.put c.append_all.ensures.full
