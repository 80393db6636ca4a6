use Rattle.std.proofs.Common.{◌≡◌}
use Rattle.device_state.proofs.Listed.{AreCountedBelow}
use Rattle.device_state.proofs.state.State.count_changes.Given as goal

abbrev pub invariant-loop-i : goal.invariant-loop-i
invariant-loop-i l = record {
  counted : AreCountedBelow l.i l.effects l.fn.self l.self;
  kept : l.self ≡ record l.fn.self { hosts = l.self.hosts };
}
