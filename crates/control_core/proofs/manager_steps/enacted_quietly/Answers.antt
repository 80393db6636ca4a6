use Rattle.std.proofs.Common.{◌++◌, ◌∙◌, ap}
use Rattle.journal_core.specs.Entries.{effects}
use Rattle.device_commands.specs.device_rules.specs.Views.{view_of}
use Rattle.control_core.{specs.Recording.events_of, specs.Recording.records_told, proofs.Managed.entered_done}
use Rattle.control_core.proofs.manager_steps.enacted_quietly.Goals as goal

pub returns : goal.returns
returns c = λ cfg before o kept over is.
    entered_done cfg before c.args.request.now o c.args.ended.now over c.args.draft is c.answer.result _ c.answer.ensures
    (c.in_ok-append_records_of_hosts.ensures cfg before kept
    ∙ ap (λ es. es ++ records_told (effects before) (events_of (λ h. view_of cfg h before)) c.args.draft.log_records) c.in_ok-append_ends.ensures)
