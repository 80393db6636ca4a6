use Rattle.fm_payloads.proofs.ManagerLaws.{manager_again}
use Rattle.fm_payloads.proofs.encoding.encode.Goals as goal

pub returns-clause-again : goal.returns-clause-again
returns-clause-again c = manager_again c.append.result c.args.request.now c.in_ok-payload.ensures.fits
