use Rattle.script_text.proofs.PrintedPolicies.{other_policy_adds}
use Rattle.script_text.proofs.policies.write_other_policy.Goals as goal

pub returns : goal.returns
returns c = other_policy_adds c.args.policy c.requires c.in_ok-write_named_count.ensures
