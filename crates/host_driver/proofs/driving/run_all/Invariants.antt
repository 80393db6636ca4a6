use Rattle.std.proofs.Common.{◌≡◌, take}
use Rattle.host_driver.specs.Running.{HasLines}
use Rattle.host_driver.proofs.driving.run_all.Given as goal

-- The first lines have run.
abbrev pub invariant-loop-line : goal.invariant-loop-line
invariant-loop-line l = record {
  number : l.number ≡ l.line-index;
  lines : HasLines l.fn.device.config l.fn.driver.host l.fn.driver.most (take l.line-index l.lines) l.device l.driver;
}
