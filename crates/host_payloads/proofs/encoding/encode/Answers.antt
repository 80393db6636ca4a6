use Rattle.host_payloads.proofs.Written.{host_again}
use Rattle.host_payloads.proofs.encoding.encode.Goals as goal

pub returns-clause-again : goal.returns-clause-again
returns-clause-again c = host_again c.append.result c.args.request.now c.requires.untagged c.in_ok-payload.ensures.fits
