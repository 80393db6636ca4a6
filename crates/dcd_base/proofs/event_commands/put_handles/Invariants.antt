use Rattle.std.{proofs.Common.◌≡◌, proofs.Common.◌+◌, proofs.Common.◌*◌, proofs.Common.◌++◌, proofs.Common.flat_map, proofs.Common.take, specs.List.AllByRecursion}
use Rattle.dcd_base.specs.{EventCommands.FitsHandle, Layouts.u16_bytes}
use Rattle.dcd_base.proofs.event_commands.put_handles.Given as goal

abbrev pub invariant-loop-handle : goal.invariant-loop-handle
invariant-loop-handle l = record {
  place : l.place ≡ l.at + 2 * l.handle-index;
  put : take l.place l.out ≡ take l.at l.fn.out ++ flat_map u16_bytes (take l.handle-index l.handles);
  fit : AllByRecursion FitsHandle (take l.handle-index l.handles);
}
