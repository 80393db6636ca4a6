use Rattle.host_driver.proofs.InTurns.{lines_fit}
use Rattle.host_driver.proofs.program.drive_host.Goals as goal

pub drive-requires-clause-fitting : goal.drive-requires-clause-fitting
drive-requires-clause-fitting c = lines_fit c.args.script.config.hosts c.args.script.lanes c.args.script.lines c.requires.sound
