use Rattle.std.{proofs.Common.◌≡◌, proofs.Common.◌-◌, proofs.Common.◌≤◌, proofs.Common.length, proofs.Common.take, specs.Prelude.fold}
use Rattle.device_state.specs.EnteredLists.{lists_by}
use Rattle.device_state.proofs.own_lists.enter_all_in.Given as goal

abbrev pub invariant-loop-done : goal.invariant-loop-done
invariant-loop-done l = record {
  within : l.done ≤ length l.effects;
  entered : l.lists ≡ fold (lists_by l.config l.host) l.fn.lists (take l.done l.effects);
}

abbrev pub decreases-loop-done : goal.decreases-loop-done
decreases-loop-done l = length l.effects - l.done
