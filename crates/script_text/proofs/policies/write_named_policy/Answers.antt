use Rattle.script_text.proofs.PrintedPolicies.{named_policy_adds}
use Rattle.script_text.proofs.policies.write_named_policy.Goals as goal

pub returns : goal.returns
returns c = named_policy_adds c.args.policy c.add_policy_name.result.now c.requires c.add_policy_name.ensures c.in_ok-write_word.ensures
