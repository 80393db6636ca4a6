use Rattle.script_text.proofs.PrintLaws.{adds_then, starts_then}
use Rattle.script_text.proofs.printing.write_host.Goals as goal

pub returns : goal.returns
returns c = starts_then c.in_ok-begin_with.ensures (adds_then c.in_ok-write_count.ensures (adds_then c.in_ok-write_key.ensures c.in_ok-write_bases.ensures)) c.in_ok-end_line.ensures
