use Rattle.std.{proofs.Common.◌≡◌, proofs.Common.◌++◌, proofs.Common.◌*◌, proofs.Common.◌-◌, proofs.Common.◌≤◌, proofs.Common.length, proofs.Common.map, specs.Int.from_le_bytes, specs.Int.w16}
use Rattle.dcd_base.specs.Layouts.{pieces}
use Rattle.dcd_base.proofs.event_commands.several_handles.Given as goal

abbrev pub invariant-loop : goal.invariant-loop
invariant-loop l = record {
  enough : 2 * (l.count - l.counter) ≤ length l.rest;
  read : l.handles ++ map (from_le_bytes w16) (pieces 2 (l.count - l.counter) l.rest) ≡ map (from_le_bytes w16) (pieces 2 l.count l.bytes);
}
