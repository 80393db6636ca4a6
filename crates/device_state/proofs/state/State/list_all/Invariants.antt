use Rattle.std.{proofs.Common.◌≡◌, proofs.Common.◌-◌, proofs.Common.◌≤◌, proofs.Common.length, proofs.Common.take, specs.Prelude.fold}
use Rattle.device_state.specs.{EnteredLists.room_by, Stages.IsListedOver}
use Rattle.device_state.proofs.state.State.list_all.Given as goal

abbrev pub invariant-loop-done : goal.invariant-loop-done
invariant-loop-done l = record {
  within : l.done ≤ length l.effects;
  listed : IsListedOver l.config (take l.done l.effects) l.fn.self l.self;
  room : fold room_by 1 (take l.done l.effects) ≤ l.self.tags.spare;
  spare : fold room_by l.fn.self.tags.spare (take l.done l.effects) ≤ l.self.tags.spare;
  kept : l.self ≡ record l.fn.self { hosts = l.self.hosts; tags = l.self.tags };
}

abbrev pub decreases-loop-done : goal.decreases-loop-done
decreases-loop-done l = length l.effects - l.done
