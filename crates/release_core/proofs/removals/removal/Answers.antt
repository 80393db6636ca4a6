use Rattle.std.{proofs.Common.◌≡◌, proofs.Common.None, proofs.Common.false, proofs.Common.ap, proofs.Common.length, proofs.Common.rules, proofs.Common.sym, proofs.Common.◌∙◌, specs.Prelude.nat_le}
use Rattle.extent_list.specs.{dcd_codes.specs.dcd_base.specs.Words.is_empty, dcd_codes.specs.Rules.each_in, Listing.too_many_listed, declared.listed.Within.Within}
use Rattle.release_core.{specs.Leaving.leaving_rule, proofs.FreeToLeave.all_can_leave, proofs.Rows.removal_broken}
use Rattle.release_core.proofs.removals.removal.Goals as goal

pub returns-in-Some-first_unfit : goal.returns-in-Some-first_unfit
returns-in-Some-first_unfit c =
    let list = c.args.list.now in
    let few : too_many_listed list ≡ None = search rules in
    let some : is_empty list ≡ false = search rules in
    let known : nat_le (length c.args.config.now.regions) c.args.region ≡ false = search rules in
    let broken = ap (λ xs. each_in list (leaving_rule c.args.config.now c.args.host xs (Within.Region c.args.region))) (sym (c.of-owners.ensures ∙ c.as_slice-held.ensures))
    ∙ ap (λ xs. each_in xs (leaving_rule c.args.config.now c.args.host c.of-owners.result (Within.Region c.args.region))) (sym c.as_slice-listed.ensures) ∙ sym c.first_unfit.ensures ∙ c.in-Some-first_unfit.is in
    removal_broken c.args.config.now c.args.host c.args.accepted.now.extents c.args.offered list few c.args.region c.args.forced known some c.in-Some-first_unfit.rule broken

pub forced_rule-requires-clause-leaving : goal.forced_rule-requires-clause-leaving
forced_rule-requires-clause-leaving c =
    let listed = c.as_slice-listed.result.now in
    let within = Within.Region c.args.region in
    let each : each_in listed (leaving_rule c.args.config.now c.args.host c.args.accepted.now.extents within) ≡ None =
    ap (λ owners. each_in listed (leaving_rule c.args.config.now c.args.host owners within)) (sym (c.of-owners.ensures ∙ c.as_slice-held.ensures)) ∙ sym c.first_unfit.ensures ∙ c.in_default-first_unfit.is in
    all_can_leave c.args.config.now c.args.host c.args.accepted.now.extents within listed c.regions.ensures.sound c.requires.host each
