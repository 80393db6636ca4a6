use Rattle.std.proofs.Common.{◌≡◌, ◌<◌, ◌++◌, ◌∷◌, [], ◌∙◌, ap, arith, length, sym}
use Rattle.extent_list.specs.HostLists.{Lists}
use Rattle.journal_core.specs.declared.outcome.Effect.{Effect}
use Rattle.tag_refs.specs.Tables.{TagTable}
use Rattle.device_state.{proofs.Listed.listed, proofs.Listed.of_offer, proofs.Listed.own_offer, proofs.Listed.own_part, specs.EnteredLists.lists_by, specs.EnteredLists.offered_tag}
use Rattle.device_state.specs.{StateAfter.part_of, declared.state.State.State}
use Rattle.device_state.proofs.state.State.list_offer.Goals as goal

pub returns-clause-listed : goal.returns-clause-listed
returns-clause-listed c =
    let conf = c.args.config.now in
    let old = c.args.self.now in
    let h = c.args.host in
    let xs = c.args.extents.now in
    let l : Lists = record (part_of old h).lists { offers = (part_of old h).lists.offers ++ xs ∷ [] } in
    let known : h < length old.hosts.items = omega (arith, c.requires.host, c.requires.hosts) in
    let is : l ≡ lists_by conf h (part_of old h).lists (Effect.Offer h xs) = sym (own_offer conf h (part_of old h).lists xs) in
    let mid = c.enter_offer.new.self in
    record {
      listed = listed conf old c.tell_offer.new.self h l (Effect.Offer h xs) known (of_offer conf h xs) is (ap (λ (s : State). s.hosts.items) c.tell_offer.ensures.kept ∙ c.enter_offer.ensures.hosts);
      tags = c.tell_offer.ensures.tags
          ∙ ap (λ (m : Lists). offered_tag conf h m xs mid.tags.entries) (own_part old mid h l known c.enter_offer.ensures.hosts ∙ is)
          ∙ ap (λ (s : State). offered_tag conf h (lists_by conf h (part_of old h).lists (Effect.Offer h xs)) xs s.tags.entries) c.enter_offer.ensures.kept;
    }
