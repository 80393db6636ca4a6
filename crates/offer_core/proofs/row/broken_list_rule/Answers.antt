use Rattle.std.proofs.Common.{◌≡◌, ℕ, ◌+◌, List, [], ◌∷◌, ap, arith, drop, length, sym, ◌∙◌}
use Rattle.std.proofs.lemmas.Bool.{eqb-true}
use Rattle.extent_list.specs.{ExtentLists.count_in, Listing.too_many_extents, dcd_codes.specs.Rules.each_in, dcd_codes.specs.dcd_base.specs.declared.capacity.Extent.Extent}
use Rattle.extent_list.specs.{dcd_codes.specs.dcd_base.specs.declared.ids.HostId.HostId, media_map.specs.region_config.specs.Configurations.Configuration}
use Rattle.offer_core.{proofs.Rows.one_broken, specs.Offerings.lists_of, specs.Responses.extent_rule, specs.Responses.response_list_rule}
use Rattle.offer_core.proofs.row.broken_list_rule.Goals as goal

-- where nothing is listed only what the host has and is offered counts
nothing_listed : (c : Configuration) (h : HostId) (accepted : ℕ) (offers : List (List Extent)) (whole : List Extent) → length whole ≡ 0
    → (n : ℕ) → n ≡ accepted + count_in (drop 1 offers) → too_many_extents n ≡ response_list_rule c h accepted offers whole
nothing_listed c h accepted offers [] none n is = ap too_many_extents (let e : n ≡ accepted + 0 + count_in (drop 1 offers) = omega (arith, is) in e)
nothing_listed c h accepted offers (x ∷ xs) none n is = absurd (omega (arith, none))

pub returns-then-is_empty : goal.returns-then-is_empty
returns-then-is_empty c =
    c.too_many_extents.ensures
    ∙ nothing_listed c.args.config.now c.args.host c.args.accepted (lists_of c.args.offers.now.offers) c.args.whole.now
    (eqb-true (length c.args.whole.now) 0 (sym c.is_empty.ensures ∙ c.if-is_empty.true)) _ (ap (λ n. c.args.accepted + n) c.later_extents.ensures.value)

pub returns-in-Some : goal.returns-in-Some
returns-in-Some c =
    let whole = c.args.whole.now in
    sym (one_broken c.args.config.now c.args.host c.args.accepted (lists_of c.args.offers.now.offers) whole c.in-Some.rule
    (ap (λ (offer : List Extent). each_in whole (extent_rule c.args.config.now c.args.host offer)) (sym (c.of-owners.ensures ∙ c.oldest.ensures)) ∙ sym c.first_unfit.ensures ∙ c.in-Some.is))
