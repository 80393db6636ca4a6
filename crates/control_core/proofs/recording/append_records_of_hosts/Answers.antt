use Rattle.std.proofs.Common.{◌++◌, ◌<◌, ◌∙◌, ap, append_assoc, arith, get_or, length, sym, take}
use Rattle.std.proofs.lemmas.List.{take_all}
use Rattle.journal_core.specs.Entries.{effects}
use Rattle.device_commands.specs.device_rules.specs.{Logs.log_of, Outcomes.entered_all, Views.view_of}
use Rattle.control_core.{specs.Recording.events_of, specs.Recording.records_told, proofs.Recorded.told_more}
use Rattle.control_core.proofs.recording.append_records_of_hosts.Goals as goal

pub loop-i-preserved : goal.loop-i-preserved
loop-i-preserved c = λ cfg journal kept.
    let n = c.index-told-i.result in
    let xs = c.args.log_records.now in
    let past = effects journal in
    let below : c.loop-i.i < length xs = omega (arith, c.loop-i-test.true, ap length c.as_slice-told.ensures) in
    c.in_ok-append_records_of_host.ensures cfg journal kept
    ∙ ap (λ es. es ++ entered_all n.log (log_of n.log past) (events_of (λ h. view_of cfg h journal) n)) (c.loop-i.invariant cfg journal kept)
    ∙ append_assoc c.args.effects.now (records_told past (events_of (λ h. view_of cfg h journal)) (take c.loop-i.i xs)) (entered_all n.log (log_of n.log past) (events_of (λ h. view_of cfg h journal) n))
    ∙ ap (λ es. c.args.effects.now ++ es) (sym (told_more past (events_of (λ h. view_of cfg h journal)) xs c.loop-i.i n below (c.index-told-i.is ∙ ap (λ ys. get_or ys c.loop-i.i n) c.as_slice-told.ensures)))

pub returns : goal.returns
returns c = λ cfg journal kept.
    c.loop-i.invariant cfg journal kept
    ∙ ap (λ xs. c.args.effects.now ++ records_told (effects journal) (events_of (λ h. view_of cfg h journal)) xs) (take_all c.loop-i.i c.args.log_records.now (omega (arith, c.loop-i-test.false, ap length c.as_slice-told.ensures)))
