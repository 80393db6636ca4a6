use Rattle.std.proofs.Common.{◌≡◌, ◌<◌, ◌∙◌, ap, arith, length, refl, subst, sym, take}
use Rattle.std.proofs.lemmas.List.{length-take-le, set-get_or}
use Rattle.extent_list.specs.HostLists.{Lists}
use Rattle.release_core.proofs.Lengths.{length_cut_all}
use Rattle.device_state.{proofs.Leaves.left_next, proofs.Leaves.told_next, proofs.Listed.own_part, specs.Leaves.lists_left, specs.StateAfter.no_part, specs.StateAfter.part_of}
use Rattle.device_state.specs.declared.state.State.{State}
use Rattle.device_state.proofs.state.State.leave_each.Goals as goal

pub loop-range-init : goal.loop-range-init
loop-range-init c = record {
  hosts = sym (set-get_or c.args.self.now.hosts.items c.args.host no_part);
  tags = refl;
  spare = omega arith;
  kept = refl;
}

pub leave-requires-clause-places : goal.leave-requires-clause-places
leave-requires-clause-places c =
    let old = c.args.self.now in
    let h = c.args.host in
    let xs = c.args.leaving.now in
    let i = c.loop-range.range-index in
    let was : Lists = (part_of old h).lists in
    let at = own_part old c.loop-range.self h (lists_left (take i xs) was) c.requires.host c.loop-range.invariant.hosts in
    subst (λ (l : Lists). length l.accepted < 128) (sym at)
    (omega (arith, length_cut_all (take i xs) was.accepted, length-take-le i xs (omega (arith, c.loop-range-test.true)), c.requires.places, c.loop-range-test.true))

pub loop-range-preserved : goal.loop-range-preserved
loop-range-preserved c =
    let old = c.args.self.now in
    let mid = c.loop-range.self in
    let new = c.leave.new.self in
    let h = c.args.host in
    let xs = c.args.leaving.now in
    let i = c.loop-range.range-index in
    let below = c.loop-range-test.true in
    let so_far = c.loop-range.invariant in
    let one = c.leave.ensures in
    record {
      hosts = left_next old mid h xs i _ c.requires.host below so_far.hosts new.hosts.items one.hosts;
      tags = told_next old mid h xs i _ c.requires.host below so_far.hosts old.tags.entries mid.tags.entries new.tags.entries so_far.tags one.tags;
      spare = omega (arith, one.spare, so_far.spare);
      kept = one.kept ∙ ap (λ (s : State). record s { hosts = new.hosts; tags = new.tags }) so_far.kept;
    }
