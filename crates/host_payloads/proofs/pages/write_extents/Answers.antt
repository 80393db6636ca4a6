use Rattle.host_payloads.proofs.PageLaws.{page_again}
use Rattle.host_payloads.proofs.pages.write_extents.Goals as goal

pub returns-clause-again : goal.returns-clause-again
returns-clause-again c = page_again c.args.total c.args.generation c.args.extents.now c.fill_page.ensures.fits
