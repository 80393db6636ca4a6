use Rattle.std.proofs.Common.{◌≡◌, drop, length, take}
use Rattle.dcd_c.specs.Changes.{runs_told}
use Rattle.dcd_c.proofs.changes.put_runs.Given as goal

abbrev pub invariant-loop-i : goal.invariant-loop-i
invariant-loop-i l = record {
  count : l.at ≡ length (runs_told l.config (take l.i l.effects));
  put : take l.at l.room ≡ runs_told l.config (take l.i l.effects);
  rest : drop l.at l.room ≡ drop l.at l.fn.room;
  size : length l.room ≡ length l.fn.room;
}
