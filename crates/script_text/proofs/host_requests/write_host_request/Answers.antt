use Rattle.script_text.proofs.PrintLaws.{adds_then}
use Rattle.script_text.proofs.host_requests.write_host_request.Goals as goal

pub returns : goal.returns
returns c = adds_then (rw c.host_command_of.ensures at c.in_ok-write_command.ensures) c.in_ok-write_tail.ensures
