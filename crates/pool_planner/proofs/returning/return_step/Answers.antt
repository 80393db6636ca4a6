use Rattle.std.specs.Prelude.{reverse}
use Rattle.pool_planner.proofs.Untagged.{last_untagged}
use Rattle.pool_planner.proofs.returning.return_step.Goals as goal

pub by_host-requires-clause-untagged : goal.by_host-requires-clause-untagged
by_host-requires-clause-untagged c = rw c.in_ok-last_bytes.ensures.those (last_untagged c.args.bytes (reverse c.args.extents.now))
