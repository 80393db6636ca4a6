use Rattle.std.proofs.Common.{◌∙◌, ap, subst}
use Rattle.cci_codec.specs.dcd_base.specs.declared.ids.HostId.{HostId}
use Rattle.journal_core.specs.declared.outcome.Effect.{Effect}
use Rattle.device_state.specs.Leaves.{IsLeaving}
use Rattle.device_state.proofs.leaving.range_of.Goals as goal

pub extent_of-requires-clause-run : goal.extent_of-requires-clause-run
extent_of-requires-clause-run c =
    c.requires.run c.in-Leave.run' (c.in-Leave.is ∙ ap (λ (k : HostId). Effect.Leave k c.in-Leave.run') (subst (IsLeaving c.args.host) c.in-Leave.is c.requires.leaving))
