use Rattle.std.proofs.Common.{arith}
use Rattle.host_payloads.proofs.PageLaws.{given_of_page, page_of_given}
use Rattle.host_payloads.proofs.pages.read_extents.Goals as goal

pub returns-clause-found : goal.returns-clause-found
returns-clause-found c = page_of_given c.args.payload.now _ (λ i. omega (arith, c.type_inv.payload i)) c.page_of.ensures

pub returns-clause-only : goal.returns-clause-only
returns-clause-only c = given_of_page c.args.payload.now _ c.page_of.ensures
