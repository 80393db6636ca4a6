use Rattle.control_core.proofs.Scrubbed.{is_scrub}
use Rattle.control_core.proofs.scrub_steps.scrub_step.Goals as goal

pub returns : goal.returns
returns c = is_scrub c.args.config.now c.args.state.now c.args.most c.in_ok-zeroed.zeroed c.in_ok-zeroed.ensures
