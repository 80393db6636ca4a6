use Rattle.std.proofs.Common.{arith, ap}
use Rattle.region_config.specs.Granules.{granule_total}
use Rattle.journal_core.specs.Entries.{effects}
use Rattle.pool_planner.proofs.HeldBounds.{dirty_few}
use Rattle.pool_planner.proofs.losing.zero_dirty.Goals as goal

pub overflow_cast-dirty : goal.overflow_cast-dirty
overflow_cast-dirty c =
    let control = c.args.trial.now.control in
    omega (arith, c.dirty-dirty.ensures, dirty_few control.config (effects control.entries), c.granules-granules.ensures.value, c.granules-granules.ensures.few, ap granule_total c.first_config.ensures)
