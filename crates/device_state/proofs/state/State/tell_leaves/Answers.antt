use Rattle.std.proofs.Common.{◌≡◌, ◌∙◌, [], ◌∷◌, ap, get_or, sym}
use Rattle.extent_list.specs.HostLists.{Lists}
use Rattle.device_state.{proofs.Listed.own_part, specs.EnteredLists.told, specs.Leaves.lists_left, specs.Leaves.told_left, specs.StateAfter.no_part, specs.StateAfter.part_of}
use Rattle.device_state.specs.declared.state.State.{State}
use Rattle.device_state.proofs.state.State.tell_leaves.Goals as goal

pub returns-in-Some-clause-tags : goal.returns-in-Some-clause-tags
returns-in-Some-clause-tags c =
    let old = c.args.self.now in
    let h = c.args.host in
    let xs = c.args.leaving.now in
    let was : Lists = (part_of old h).lists in
    let tag = c.in-Some.tag in
    let mid = c.enter_leaves.new.self in
    let after : (part_of mid h).lists ≡ lists_left xs was = own_part old mid h (lists_left xs was) c.requires.host c.enter_leaves.ensures.hosts in
    let entries = ap (λ (s : State). s.tags.entries) c.enter_leaves.ensures.kept in
    let before = c.lists_in.ensures no_part ∙ (λ j. (get_or (c.as_slice.ensures.value j) h no_part).lists) in
    c.tell_left.ensures.tags
    ∙ (λ i. told h (after i) (tag ∷ []) (entries i))
    ∙ (λ i. told h (lists_left xs (sym before i)) (tag ∷ []) old.tags.entries)
    ∙ sym (c.in-Some.ensures h old.tags.entries c.requires.known)
    ∙ (λ i. told_left h (before i) xs old.tags.entries)

pub returns-in-Some-clause-hosts : goal.returns-in-Some-clause-hosts
returns-in-Some-clause-hosts c = ap (λ (s : State). s.hosts.items) c.tell_left.ensures.kept ∙ c.enter_leaves.ensures.hosts
