use Rattle.std.proofs.Common.{◌≡◌, ◌∙◌, [], ◌∷◌, ap, get_or}
use Rattle.extent_list.specs.HostLists.{Lists}
use Rattle.device_state.{proofs.Listed.own_part, specs.EnteredLists.told, specs.Leaves.lists_left, specs.Leaves.owner_tag, specs.StateAfter.no_part, specs.StateAfter.part_of}
use Rattle.device_state.specs.declared.state.State.{State}
use Rattle.device_state.proofs.state.State.leave.Goals as goal

pub returns-clause-tags : goal.returns-clause-tags
returns-clause-tags c =
    let old = c.args.self.now in
    let h = c.args.host in
    let x = c.args.range.now in
    let was : Lists = (part_of old h).lists in
    let mid = c.enter_leaves.new.self in
    let after : (part_of mid h).lists ≡ lists_left (x ∷ []) was = own_part old mid h (lists_left (x ∷ []) was) c.requires.host c.enter_leaves.ensures.hosts in
    let entries = ap (λ (s : State). s.tags.entries) c.enter_leaves.ensures.kept in
    let tag = c.tag_at-tag.ensures ∙ ap (λ (l : Lists). owner_tag x l.accepted) (c.lists_in.ensures no_part ∙ (λ j. (get_or (c.as_slice.ensures.value j) h no_part).lists)) in
    c.tell_left.ensures.tags ∙ (λ i. told h (after i) (tag i) (entries i))

pub returns-clause-hosts : goal.returns-clause-hosts
returns-clause-hosts c = ap (λ (s : State). s.hosts.items) c.tell_left.ensures.kept ∙ c.enter_leaves.ensures.hosts
