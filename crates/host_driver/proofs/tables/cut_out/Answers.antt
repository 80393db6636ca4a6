use Rattle.std.{proofs.Common.◌≡◌, proofs.Common.true, proofs.Common.false, proofs.Common.sym, proofs.Common.ap, proofs.Common.◌∙◌, specs.Prelude.if◌then◌else◌}
use Rattle.extent_list.specs.ExtentLists.{cut}
use Rattle.host_driver.{specs.Driving.is_below_end, proofs.Finding.can_cut, proofs.Finding.cut_of, proofs.Finding.stays_whole}
use Rattle.host_driver.proofs.tables.cut_out.Goals as goal

pub cut-requires-clause-in_addresses : goal.cut-requires-clause-in_addresses
cut-requires-clause-in_addresses c =
    can_cut c.args.table.now.extents c.args.extent.now c.in-Some.index c.at-owner.result (sym c.holder_of.ensures ∙ c.in-Some.is) c.at-owner.ensures
    (sym c.is_below_end.ensures ∙ c.if-is_below_end.true)

pub returns-in-Ok-clause-cut : goal.returns-in-Ok-clause-cut
returns-in-Ok-clause-cut c =
    let x = c.args.extent.now in
    let xs = c.args.table.now.extents in
    let below : is_below_end x c.at-owner.result ≡ true = sym c.is_below_end.ensures ∙ c.if-is_below_end.true in
    c.in-Ok.ensures.cut
    ∙ sym (cut_of xs x c.in-Some.index c.at-owner.result (sym c.holder_of.ensures ∙ c.in-Some.is) c.at-owner.ensures
    ∙ ap (λ b. if b then cut x.start x.length xs else xs) below)

pub returns-else-is_below_end-clause-cut : goal.returns-else-is_below_end-clause-cut
returns-else-is_below_end-clause-cut c =
    let x = c.args.extent.now in
    let xs = c.args.table.now.extents in
    let above : is_below_end x c.at-owner.result ≡ false = sym c.is_below_end.ensures ∙ c.if-is_below_end.false in
    sym (cut_of xs x c.in-Some.index c.at-owner.result (sym c.holder_of.ensures ∙ c.in-Some.is) c.at-owner.ensures
    ∙ ap (λ b. if b then cut x.start x.length xs else xs) above)

pub returns-in-None-clause-cut : goal.returns-in-None-clause-cut
returns-in-None-clause-cut c = stays_whole c.args.table.now.extents c.args.extent.now (sym c.holder_of.ensures ∙ c.in-None.is)
