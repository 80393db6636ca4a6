use Rattle.std.proofs.Common.{◌≡◌, ◌+◌, ◌<◌, ◌≤◌, List, length, inl, inr, refl, sym, ap, ◌∙◌, subst, arith}
use Rattle.std.{specs.Prelude.◌^◌, specs.Prelude.All, specs.Prelude.IsTrue, proofs.lemmas.Bool.false≢true}
use Rattle.dcd_base.specs.declared.capacity.Extent.{Extent}
use Rattle.control_core.specs.device_rules.specs.Outcomes.{records_of_extents}
use Rattle.event_records.specs.declared.events.EventKind.{EventKind}
use Rattle.extent_list.specs.HostLists.{Lists, extent_total}
use Rattle.isolation_laws.specs.declared.items.Item.{Item}
use Rattle.device_plain.proofs.{BroughtLists.keeps_taken, BroughtLists.taken_from, BroughtLists.too_many_left, BroughtLists.without_taken, ToldAlone.takes_told}
use Rattle.device_plain.proofs.alone.Alone.take.Goals as goal

pub returns-then-len-offered : goal.returns-then-len-offered
returns-then-len-offered c = λ c' v word alone.
    inl (too_many_left c.args.extents.now c.args.self.now.lists v alone.lists_are
    (omega (arith, c.if-len-offered.true, c.len.ensures, ap (λ (xs : List Extent). length xs) c.accepted.ensures, ap (λ (l : Lists). length l.accepted) c.in_ok-take_out.ensures.taken, c.offered-offered.ensures, c.requires)))

pub returns : goal.returns
returns c = λ c'.
    let is : c.take_out.new.self ≡ taken_from c.args.extents.now c.args.self.now.lists = c.in_ok-take_out.ensures.taken in
    let total : extent_total c.take_out.new.self ≡ extent_total (taken_from c.args.extents.now c.args.self.now.lists) = ap extent_total is in
    let few : extent_total c.take_out.new.self ≤ 64 =
    omega (arith, total, c.if-len-offered.false, c.len.ensures, ap (λ (xs : List Extent). length xs) c.accepted.ensures, ap (λ (l : Lists). length l.accepted) is, c.offered-offered.ensures, c.requires) in
    takes_told c' c.args.host (Item.Taken c.args.extents.now) (λ v. records_of_extents c.args.host v EventKind.Forced c.args.extents.now) (without_taken c.args.extents.now)
    c.args.self.now (record c.args.self.now { lists = c.take_out.new.self }) c.tell.new.self
    (keeps_taken c' c.args.host c.args.extents.now c.args.self.now c.take_out.new.self few is)
    (λ v word alone. refl) (λ d v n. refl)
    c.tell.result (c.tell.ensures c')

pub returns-then-not-all_end : goal.returns-then-not-all_end
returns-then-not-all_end c = λ c' v word alone. inr (inr (λ all.
    let held : IsTrue c.all_end.result = c.all_end.ensures.1 (subst (λ (xs : List Extent). All (λ (x : Extent). x.start + x.length < 2 ^ 64) xs) (sym c.as_slice.ensures) all) in
    false≢true (sym c.if-not-all_end.true ∙ held)))
