use Rattle.std.proofs.Common.{ap, ◌∙◌}
use Rattle.ruled_cells.proofs.WholeSteps.{merges}
use Rattle.ruled_cells.proofs.closing.merge.Goals as goal

pub absorb-requires-clause-rule : goal.absorb-requires-clause-rule
absorb-requires-clause-rule g c = merges _ _ _ _ _ _ c.args.seat.now.used (ap (λ t. t.me.0.client.spent) c.into_token.ensures ∙ c.args.other.used)
