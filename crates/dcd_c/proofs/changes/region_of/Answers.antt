use Rattle.std.proofs.Common.{ap, arith, sym}
use Rattle.dcd_base.specs.declared.media.Run.{Run}
use Rattle.dcd_c.proofs.RunSteps.{behind_last}
use Rattle.dcd_c.proofs.changes.region_of.Goals as goal

pub returns-else-run-granules-clause-value : goal.returns-else-run-granules-clause-value
returns-else-run-granules-clause-value c =
    sym (behind_last c.args.config.now c.args.run.now.first (omega (arith, c.granules.ensures.value, c.if-run-granules.false, ap (λ (r : Run). r.first) c.run.view_is)))
