use Rattle.std.{proofs.Common.◌≡◌, proofs.Common.take, specs.Prelude.fold}
use Rattle.control_core.specs.device_state.specs.EnteredLists.{lists_by}
use Rattle.device_plain.proofs.lists_alone.enter_each.Given as goal

abbrev pub invariant-loop-effect : goal.invariant-loop-effect
invariant-loop-effect l = l.lists ≡ fold (lists_by l.config l.host) l.fn.lists (take l.effect-index l.changes)
