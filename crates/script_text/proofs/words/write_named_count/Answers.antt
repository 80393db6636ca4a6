use Rattle.script_text.proofs.PrintLaws.{adds_then}
use Rattle.script_text.proofs.words.write_named_count.Goals as goal

pub returns : goal.returns
returns c = adds_then c.in_ok-write_key.ensures c.in_ok-write_count.ensures
