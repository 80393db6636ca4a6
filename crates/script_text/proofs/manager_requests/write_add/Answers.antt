use Rattle.script_text.proofs.PrintLaws.{adds_then}
use Rattle.script_text.proofs.manager_requests.write_add.Goals as goal

pub returns : goal.returns
returns c = adds_then c.in_ok-write_spot.ensures (adds_then c.in_ok-write_add_policy.ensures c.in_ok-write_capacity.ensures)
