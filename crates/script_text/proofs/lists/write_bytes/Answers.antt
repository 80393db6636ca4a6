use Rattle.script_text.proofs.PrintedParts.{pairs_add}
use Rattle.script_text.proofs.lists.write_bytes.Goals as goal

pub returns : goal.returns
returns c = pairs_add c.args.bytes.now c.are_bytes.ensures c.requires.some c.requires.short c.in_ok-write_pairs.ensures
