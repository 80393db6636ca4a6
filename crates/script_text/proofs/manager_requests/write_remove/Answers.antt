use Rattle.script_text.proofs.PrintLaws.{adds_then}
use Rattle.script_text.proofs.manager_requests.write_remove.Goals as goal

pub returns : goal.returns
returns c = adds_then c.in_ok-write_spot.ensures (adds_then c.in_ok-write_release_flags.ensures c.in_ok-write_capacity.ensures)
