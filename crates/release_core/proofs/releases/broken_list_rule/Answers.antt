use Rattle.std.proofs.Common.{List, ◌≡◌, IfOk, None, false, ap, refl, rules, subst, sym, ◌∙◌}
use Rattle.extent_list.specs.{dcd_codes.specs.dcd_base.specs.declared.capacity.Extent.Extent, dcd_codes.specs.Rules.each_in, Listing.incomplete, Listing.too_many_listed, declared.listed.Within.Within}
use Rattle.release_core.{specs.Leaving.leaving_rule, proofs.FreeToLeave.all_can_leave, proofs.Rows.few_listed, proofs.Rows.release_broken, proofs.Rows.release_counted}
use Rattle.release_core.proofs.releases.broken_list_rule.Goals as goal

pub returns-in-Some : goal.returns-in-Some
returns-in-Some c =
    let whole = c.args.whole.now in
    let few : too_many_listed whole ≡ None = few_listed whole c.requires.listed in
    sym (release_broken c.args.config.now c.args.host c.args.accepted.now.extents c.args.offered whole few false refl c.in-Some.rule
    (ap (λ (owners : List Extent). each_in whole (leaving_rule c.args.config.now c.args.host owners Within.AnyRegion)) (sym (c.of-owners.ensures ∙ c.as_slice.ensures)) ∙ sym c.first_unfit.ensures ∙ c.in-Some.is))

pub count_rule-requires-clause-leaving : goal.count_rule-requires-clause-leaving
count_rule-requires-clause-leaving c =
    let whole = c.args.whole.now in
    let each : each_in whole (leaving_rule c.args.config.now c.args.host c.args.accepted.now.extents Within.AnyRegion) ≡ None =
    ap (λ (owners : List Extent). each_in whole (leaving_rule c.args.config.now c.args.host owners Within.AnyRegion)) (sym (c.of-owners.ensures ∙ c.as_slice.ensures)) ∙ sym c.first_unfit.ensures ∙ c.in_default.is in
    all_can_leave c.args.config.now c.args.host c.args.accepted.now.extents Within.AnyRegion whole c.regions-regions.ensures.sound c.requires.host each

pub returns-in-None : goal.returns-in-None
returns-in-None c =
    let whole = c.args.whole.now in
    let few : too_many_listed whole ≡ None = few_listed whole c.requires.listed in
    let each : each_in whole (leaving_rule c.args.config.now c.args.host c.args.accepted.now.extents Within.AnyRegion) ≡ None =
    ap (λ (owners : List Extent). each_in whole (leaving_rule c.args.config.now c.args.host owners Within.AnyRegion)) (sym (c.of-owners.ensures ∙ c.as_slice.ensures)) ∙ sym c.first_unfit.ensures ∙ c.in_default.is in
    let tags : incomplete c.args.config.now c.args.host c.args.accepted.now.extents whole ≡ None = search rules in
    let row = release_counted c.args.config.now c.args.host c.args.accepted.now.extents c.args.offered whole few false refl each tags in
    subst (λ rule. IfOk c.count_rule.result (λ found. found ≡ rule)) (sym row) c.count_rule.ensures
