use Rattle.std.proofs.Common.{◌∙◌}
use Rattle.script_text.proofs.ScriptSizes.{head_told}
use Rattle.script_text.proofs.sizes.size_of_head.Goals as goal

pub returns-clause-value : goal.returns-clause-value
returns-clause-value c = head_told c.args.script.now c.from-regions.result c.from-hosts.result (c.from-regions.ensures ∙ c.regions.ensures.value) (c.from-hosts.ensures ∙ c.hosts.ensures.value) c.requires
