use Rattle.script_text.proofs.PrintLaws.{adds_then}
use Rattle.script_text.proofs.host_requests.write_clearing.Goals as goal

pub returns : goal.returns
returns c = adds_then (adds_then c.in_ok-write_log.ensures c.in_ok-write_flag.ensures) c.in_ok-write_handles.ensures
