use Rattle.std.proofs.Common.{◌≡◌, ◌≤◌, take}
use Rattle.device_state.specs.{Entered.with_lists, Leaves.lists_left, Leaves.told_left, StateAfter.part_of}
use Rattle.device_state.proofs.state.State.leave_each.Given as goal

abbrev pub invariant-loop-range : goal.invariant-loop-range
invariant-loop-range l = record {
  hosts : l.self.hosts.items ≡ with_lists l.fn.self l.host (lists_left (take l.range-index l.leaving) (part_of l.fn.self l.host).lists);
  tags : l.self.tags.entries ≡ told_left l.host (part_of l.fn.self l.host).lists (take l.range-index l.leaving) l.fn.self.tags.entries;
  spare : l.fn.self.tags.spare ≤ l.self.tags.spare;
  kept : l.self ≡ record l.fn.self { hosts = l.self.hosts; tags = l.self.tags };
}
