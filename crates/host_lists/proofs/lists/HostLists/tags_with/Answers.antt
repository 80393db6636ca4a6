use Rattle.std.proofs.{Common.◌≡◌, Common.◌++◌, Common.ap, Common.arith, Common.length, Common.length-append, Common.sym, Common.◌∙◌, lemmas.List.length-map}
use Rattle.extent_list.specs.HostLists.{Lists, extents_of_lists}
use Rattle.offer_core.specs.{declared.offer.Offer.Offer, Offerings.lists_of}
use Rattle.host_lists.{specs.Tags.capped, specs.Tags.extents_before, specs.Tags.tag_count, proofs.Offered.extents_before_all, proofs.Offered.length_extents, proofs.TagCounting.tag_count_le}
use Rattle.host_lists.proofs.lists.HostLists.tags_with.Goals as goal

pub returns : goal.returns
returns c =
    let offers = c.self.inside.offers.offers in
    let more = c.args.more.now in
    let all : c.len.result ≡ length (lists_of offers) = c.len.ensures ∙ sym (length-map offers (λ (o : Offer). o.extents)) in
    let own : extents_before c.as_slice-accepted.result.now c.all-offers.result c.len.result ≡ extents_of_lists c.args.self.now =
    ap (λ lists. extents_before c.as_slice-accepted.result.now lists c.len.result) c.all-offers.ensures
    ∙ ap (λ xs. extents_before xs (lists_of offers) c.len.result) (c.as_slice-accepted.ensures ∙ c.list.ensures)
    ∙ extents_before_all c.self.inside.accepted (lists_of offers) c.len.result all
    ∙ ap (λ (l : Lists). extents_of_lists l) c.self.view_is in
    let count : c.more_tags.result ≡ capped (tag_count (extents_of_lists c.args.self.now ++ more)) = c.more_tags.ensures ∙ ap (λ xs. capped (tag_count (xs ++ more))) own in
    omega (arith, count, tag_count_le (extents_of_lists c.args.self.now ++ more), length-append (extents_of_lists c.args.self.now) more, length_extents c.args.self.now)
