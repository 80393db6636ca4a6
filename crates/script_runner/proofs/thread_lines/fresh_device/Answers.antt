use Rattle.std.proofs.Common.{sym, subst}
use Rattle.shared_device.specs.{Commanding.actors_of, Passing.IsNewPass}
use Rattle.script_runner.proofs.NewPassesReady.{both_ok}
use Rattle.script_runner.proofs.thread_lines.fresh_device.Goals as goal

pub returns-clause-new : goal.returns-clause-new
returns-clause-new c =
    both_ok c.start.result
    (λ made same each k p at. subst (λ d. IsNewPass made.0 (actors_of d c.args.lanes) k p) (sym same) (each k p at)) c.start.ensures.config c.start.ensures.each
