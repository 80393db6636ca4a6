use Rattle.host_driver.{specs.Running.HasGone, specs.Running.work_of, proofs.InTurns.left_to_do}
use Rattle.host_driver.proofs.settling.settle.Given as goal

-- The driver has gone on, and there is less to do each time.
abbrev pub invariant-loop-device : goal.invariant-loop-device
invariant-loop-device l = HasGone l.fn.driver.host l.fn.driver.most l.fn.device l.device l.driver

abbrev pub decreases-loop-device : goal.decreases-loop-device
decreases-loop-device l = left_to_do (work_of l.fn.driver.host l.fn.driver.most l.device.journal) l.driver.driven.idle
