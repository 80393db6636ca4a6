use Rattle.std.proofs.{Common.◌++◌, Common.◌-◌, Common.◌∙◌, Common.ap, Common.length, Common.subst, Common.sym, lemmas.Result.on_ok_weaker}
use Rattle.event_log.specs.Logs.{IsLogOf}
use Rattle.journal_core.specs.Entries.{effects}
use Rattle.device_commands.specs.device_rules.specs.Logs.{log_of}
use Rattle.control_core.{specs.Recording.events_by, specs.Recording.records_by, proofs.Recorded.entered_by, proofs.Recorded.kept_log}
use Rattle.control_core.proofs.recording.append_records_of_log.Goals as goal

pub returns : goal.returns
returns c = on_ok_weaker c.append_records.result (λ put cfg journal w kept has.
    let n = c.args.records.now in
    let of = subst (IsLogOf n.log (log_of n.log (effects journal))) (sym c.log.ensures) (kept_log cfg journal c.args.state.now kept n.log c.requires.known) in
    put
    ∙ ap (λ events. c.args.effects.now ++ records_by n.log c.log.result.now.next (c.log.result.now.capacity - length c.log.result.now.records) events) (c.as_slice.ensures ∙ c.in_ok-events.ensures w has)
    ∙ ap (λ es. c.args.effects.now ++ es) (entered_by n.log (log_of n.log (effects journal)) c.log.result.now of (events_by w n))) c.append_records.ensures
