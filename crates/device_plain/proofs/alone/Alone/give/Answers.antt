use Rattle.std.proofs.Common.{◌≡◌, ◌+◌, ◌≤◌, List, length, inl, refl, ap, ◌∙◌, arith}
use Rattle.dcd_base.specs.declared.capacity.Extent.{Extent}
use Rattle.control_core.specs.device_rules.specs.Outcomes.{records_of_extents}
use Rattle.event_records.specs.declared.events.EventKind.{EventKind}
use Rattle.extent_list.specs.HostLists.{extent_total}
use Rattle.isolation_laws.specs.declared.items.Item.{Item}
use Rattle.device_plain.proofs.{BroughtLists.keeps_offer, BroughtLists.offered_to, BroughtLists.offered_total, BroughtLists.too_many_offered, BroughtLists.with_offer, ToldAlone.takes_told}
use Rattle.device_plain.proofs.alone.Alone.give.Goals as goal

pub returns-then-len-total : goal.returns-then-len-total
returns-then-len-total c = λ c' v word alone.
    inl (too_many_offered c.args.extents.now c.args.self.now.lists v alone.lists_are
    (omega (arith, c.if-len-total.true, c.len.ensures, ap (λ (xs : List Extent). length xs) c.accepted.ensures, c.offered.ensures, c.len-2.ensures)))

pub returns : goal.returns
returns c = λ c'.
    let is : c.offer.new.self ≡ offered_to c.args.extents.now c.args.self.now.lists =
    c.in_ok-offer.ensures.offered ∙ ap (λ (xs : List Extent). offered_to xs c.args.self.now.lists) c.in_ok-copy.ensures in
    let total : extent_total c.offer.new.self ≡ extent_total c.args.self.now.lists + length c.args.extents.now = ap extent_total is ∙ offered_total c.args.extents.now c.args.self.now.lists in
    let few : extent_total c.offer.new.self ≤ 64 =
    omega (arith, total, c.if-len-total.false, c.len.ensures, ap (λ (xs : List Extent). length xs) c.accepted.ensures, c.offered.ensures, c.len-2.ensures, c.requires) in
    takes_told c' c.args.host (Item.Given c.args.extents.now) (λ v. records_of_extents c.args.host v EventKind.Add c.args.extents.now) (with_offer c.args.extents.now)
    c.args.self.now (record c.args.self.now { lists = c.offer.new.self }) c.tell.new.self
    (keeps_offer c' c.args.host c.args.extents.now c.args.self.now c.offer.new.self few is)
    (λ v word alone. refl) (λ d v n. refl)
    c.tell.result (c.tell.ensures c')
