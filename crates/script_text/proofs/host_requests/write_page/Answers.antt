use Rattle.script_text.proofs.PrintLaws.{adds_then}
use Rattle.script_text.proofs.host_requests.write_page.Goals as goal

pub returns : goal.returns
returns c = adds_then c.in_ok-write_may_count.ensures c.in_ok-write_named_count.ensures
