use Rattle.journal_core.specs.Entries.{effects}
use Rattle.device_commands.specs.device_rules.specs.{Answers.manager_outcome, Views.view_of}
use Rattle.manager_commands.specs.ManagerMessages.{DraftsFor}
use Rattle.control_core.proofs.Managed.{manages_err}
use Rattle.control_core.proofs.manager_steps.decide.Goals as goal

pub returns-in-Err : goal.returns-in-Err
returns-in-Err c =
    let cfg = c.args.config.now in
    manages_err cfg c.args.state.now c.args.request.now c.args.asked.now c.requires.asked
    (λ before d. DraftsFor cfg before c.args.asked.now (manager_outcome cfg (effects before) (λ h. view_of cfg h before) c.args.asked.now) d) _ c.in-Err.ensures
