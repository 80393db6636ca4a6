use Rattle.std.proofs.Common.{◌∙◌, ap}
use Rattle.extent_list.specs.dcd_codes.specs.declared.codes.Code.{Code}
use Rattle.device_commands.specs.device_rules.specs.Answers.{response}
use Rattle.control_core.proofs.Doing.{recorded_done}
use Rattle.control_core.proofs.host_steps.enacted.Goals as goal

pub returns : goal.returns
returns c = λ before o kept of drafts.
    let q = c.args.request.now in
    recorded_done c.args.config.now before c.args.state.now kept q c.args.host o of c.args.draft drafts c.answer.result _
    (c.answer.ensures ∙ ap (response q Code.Success) c.in_ok-append_ends_and_records.ensures.payload) c.in_ok-append_ends_and_records.ensures.effects
