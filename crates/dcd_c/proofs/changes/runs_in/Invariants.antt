use Rattle.std.proofs.Common.{◌≡◌, ◌≤◌, length, take}
use Rattle.region_config.specs.Configurations.{Configuration}
use Rattle.dcd_c.specs.Changes.{runs_told}
use Rattle.dcd_c.proofs.changes.runs_in.Given as goal

abbrev pub invariant-loop-i : goal.invariant-loop-i
invariant-loop-i l = record {
  count : (c : Configuration) → l.count ≡ length (runs_told c (take l.i l.effects));
  within : l.count ≤ l.i;
}
