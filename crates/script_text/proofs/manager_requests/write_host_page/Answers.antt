use Rattle.script_text.proofs.PrintLaws.{adds_then}
use Rattle.script_text.proofs.manager_requests.write_host_page.Goals as goal

pub returns : goal.returns
returns c = adds_then c.in_ok-write_host.ensures c.in_ok-write_page.ensures
