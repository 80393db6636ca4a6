use Rattle.std.proofs.Common.{◌≡◌, ℕ, length, refl, sym, ap, ◌∙◌, rules}
use lib.ListN.{get_elem?}
use Rattle.ruled_cells.{proofs.MakingSteps.opener_fills, proofs.MakingSteps.all_new, proofs.MakingSteps.first_seat, proofs.Opening.opens_counted, proofs.Opening.count_is, specs.Reads.about_of}
use Rattle.ruled_cells.specs.{Ruling.names, Turning.NoTurn}
use Rattle.ruled_cells.proofs.cells.Cells.make.Goals as goal

pub open-requires-clause-rule : goal.open-requires-clause-rule
open-requires-clause-rule g c =
    let row : c.in-Ok.row ≡ length c.args.rest.items = search rules in
    let w = names g.F.Chief.reads g.S.Member.reads in
    opens_counted w _ c.args.first c.args.rest.items (count_is w _ c.args.first c.args.rest.items row) c.requires.contents

pub fill-requires-clause-filling : goal.fill-requires-clause-filling
fill-requires-clause-filling g c = opener_fills _ _ c.args.first c.args.rest.items c.in-Ok-open.token.me c.in-Ok-open.ensures.seat

pub returns-clause-each : goal.returns-clause-each
returns-clause-each g c =
    let maker = c.enroll_all.ensures.maker in
    let place = c.enroll_all.ensures.board.0 ∙ (c.fill.ensures.board.0 ∙ c.in-Ok-open.ensures.table) in
    let bare : (k : ℕ) → NoTurn c.enroll_all.new.token.me.0.taken k = λ k x h. c.fill.ensures.no_turns k x (ap (λ t. get_elem? t k) (sym c.enroll_all.ensures.taken) ∙ h) in
    let key = ap (λ k. k.first) c.in-Ok-open.ensures.key in
    all_new _ _ _ _ _ _ (ap (about_of g.F.Chief.reads) key) c.put_first.ensures (first_seat _ _ _ _ maker place refl bare) c.enroll_all.ensures.each
