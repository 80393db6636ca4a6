use Rattle.std.proofs.Common.{◌∙◌, rules}
use Rattle.granule_map.proofs.Flags.{flag_at}
use Rattle.granule_map.proofs.tables.is_set.Goals as goal

pub returns : goal.returns
returns c = flag_at c.args.flags.now c.args.place c.requires ∙ search rules
