use Rattle.std.{proofs.Common.sym, proofs.Common.subst, proofs.Common.List, specs.Prelude.All}
use Rattle.journal_core.specs.declared.outcome.Effect.{Effect}
use Rattle.control_core.{specs.Pasts.LiveControlled, specs.PutChanges.AreOfOneHost, proofs.Entering.step_of_device, proofs.Entering.step_of_one}
use Rattle.manager_commands.specs.device_state.specs.Updates.{IsOfDevice}
use Rattle.control_core.proofs.live.LiveControl.changes_by.Goals as goal

pub changes_of-requires-clause-of_device : goal.changes_of-requires-clause-of_device
changes_of-requires-clause-of_device c =
    subst (λ (es : List Effect). All (IsOfDevice c.self.inside.config) es) (sym c.as_slice.ensures)
    (subst (λ (d : LiveControlled). All (IsOfDevice d.config) c.args.new.now) (sym c.self.view_is)
    (step_of_device c.args.self.now c.args.new.now c.requires))

pub changes_of-requires-clause-one : goal.changes_of-requires-clause-one
changes_of-requires-clause-one c = subst AreOfOneHost (sym c.as_slice.ensures) (step_of_one c.args.self.now c.args.new.now c.requires)
