use Rattle.std.{proofs.Common.ap, proofs.Common.◌∙◌, proofs.Common.length, proofs.Common.arith, specs.List.list_all, proofs.lemmas.List.length-take}
use Rattle.host_payloads.specs.HostPayloads.{is_untagged}
use Rattle.host_driver.{specs.Driving.given_by, specs.Driving.taken_by, specs.Keeping.kept_in, proofs.Listed.bare_untagged}
use Rattle.host_driver.proofs.kept.Kept.asked.Goals as goal

pub returns-in_ok-first_handles-in-Clear-clause-counts : goal.returns-in_ok-first_handles-in-Clear-clause-counts
returns-in_ok-first_handles-in-Clear-clause-counts c =
    omega (arith, ap length c.in_ok-first_handles-in-Clear.ensures, length-take 255 c.args.self.now.handles)

pub returns-in_ok-taken-in-Response-clause-untagged : goal.returns-in_ok-taken-in-Response-clause-untagged
returns-in_ok-taken-in-Response-clause-untagged c =
    ap (list_all is_untagged) c.in_ok-taken-in-Response.ensures.listed ∙ bare_untagged (taken_by c.args.most (kept_in c.args.self.now))

pub returns-in_ok-given-in-Release-clause-untagged : goal.returns-in_ok-given-in-Release-clause-untagged
returns-in_ok-given-in-Release-clause-untagged c =
    ap (list_all is_untagged) c.in_ok-given-in-Release.ensures.listed ∙ bare_untagged (given_by (kept_in c.args.self.now))
