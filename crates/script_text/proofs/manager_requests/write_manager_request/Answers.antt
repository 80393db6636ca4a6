use Rattle.script_text.proofs.PrintLaws.{adds_then}
use Rattle.script_text.proofs.manager_requests.write_manager_request.Goals as goal

pub returns : goal.returns
returns c = adds_then (rw c.manager_command_of.ensures at c.in_ok-write_command.ensures) c.in_ok-write_tail.ensures
