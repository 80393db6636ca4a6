use Rattle.plan_rules.proofs.Heard.{listed_untagged}
use Rattle.pool_planner.proofs.gain_steps.accept_step.Goals as goal

pub by_host-requires-clause-untagged : goal.by_host-requires-clause-untagged
by_host-requires-clause-untagged c = rw c.in_ok-all_listed.ensures.listed (listed_untagged c.args.offer.now)
