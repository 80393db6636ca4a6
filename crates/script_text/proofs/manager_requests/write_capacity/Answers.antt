use Rattle.script_text.proofs.PrintLaws.{adds_then}
use Rattle.script_text.proofs.manager_requests.write_capacity.Goals as goal

pub returns : goal.returns
returns c = adds_then (adds_then c.in_ok-write_may_number.ensures c.in_ok-write_may_tag.ensures) c.in_ok-write_extents.ensures
