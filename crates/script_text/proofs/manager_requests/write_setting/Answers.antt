use Rattle.script_text.proofs.PrintLaws.{adds_then}
use Rattle.script_text.proofs.manager_requests.write_setting.Goals as goal

pub returns : goal.returns
returns c = adds_then (adds_then c.in_ok-write_named_count.ensures c.in_ok-write_named_number.ensures) c.in_ok-write_flag.ensures
