use Rattle.std.proofs.Common.{subst, sym}
use Rattle.report.specs.script_codec.specs.declared.script_line.Line.{Line}
use Rattle.host_driver.specs.Running.{HasLine}
use Rattle.host_driver.proofs.driving.run_line.Goals as goal

pub returns-in_ok-run_act-in-Do-clause-line : goal.returns-in_ok-run_act-in-Do-clause-line
returns-in_ok-run_act-in-Do-clause-line c =
    subst (λ (line : Line). HasLine c.args.driver.now.host c.args.driver.now.most (c.args.number, line) c.args.device.now c.run_act.new.device c.run_act.new.driver)
    (sym c.in-Do.is) (c.in_ok-run_act-in-Do.ensures.line c.in-Do.lane)
