use Rattle.std.proofs.Common.{◌≡◌, ◌&&◌, List, length, get_or, not, sym, ap, ◌∙◌}
use Rattle.std.specs.Prelude.{◌==◌}
use Rattle.dcd_base.specs.declared.capacity.Extent.{Extent}
use Rattle.dcd_codes.specs.{Rules.◌breaks◌, declared.rules.Rule.Rule}
use Rattle.extent_list.proofs.{Apart.in_at, Apart.in_none, FirstOwner.no_extent, FirstOwner.owner_at, OneByOne.row_missing, OneByOne.row_overlap, OneByOne.row_part}
use Rattle.extent_list.specs.{ExtentLists.owner_of, Listing.is_shareable_at, Listing.not_whole}
use Rattle.extent_list.proofs.fitting.unfit.Goals as goal

pub returns-in-None : goal.returns-in-None
returns-in-None c =
    sym (row_missing _ c.args.missing _ _ (in_none c.args.owners.now c.args.extent.now (sym c.index_of.ensures.value ∙ c.in-None.is)))

pub returns-in-Some-sharing : goal.returns-in-Some-sharing
returns-in-Some-sharing c =
    sym (row_overlap _ c.args.missing _ _ c.in-Some-sharing.rule (in_at c.args.owners.now c.args.extent.now c.in-Some.index no_extent (sym c.index_of.ensures.value ∙ c.in-Some.is))
    (sym c.sharing.ensures ∙ c.in-Some-sharing.is))

pub returns : goal.returns
returns c =
    let owners = c.args.owners.now in
    let x = c.args.extent.now in
    let place = sym c.index_of.ensures.value ∙ c.in-Some.is in
    let shareable = is_shareable_at c.args.config.now c.args.host x in
    let owner : get_or c.as_slice.result.now c.in-Some.index no_extent ≡ owner_of owners x =
    ap (λ (xs : List Extent). get_or xs c.in-Some.index no_extent) c.as_slice.ensures ∙ owner_at owners x c.in-Some.index no_extent place in
    let part : c.part_rule.result ≡ not_whole c.args.config.now c.args.host owners (length c.args.before.now.extents.now) x =
    c.part_rule.ensures ∙ ap (λ (o : Extent). (shareable && not ((x.start == o.start) && (x.length == o.length))) breaks Rule.NotWhole (length c.args.before.now.extents.now)) owner in
    part ∙ sym (row_part _ c.args.missing _ _ (in_at owners x c.in-Some.index no_extent place) (sym c.sharing.ensures ∙ c.in_default.is))
