use Rattle.threads_tests.{proofs.DeskSteps.desks_after, proofs.DeskSteps.desks_ready, specs.declared.keeper.Keeper.Keeper}
use Rattle.threads_tests.proofs.marked.run_together.Goals as goal

pub run_phase-requires-clause-ready : goal.run_phase-requires-clause-ready
run_phase-requires-clause-ready g c κs within =
    desks_ready (λ (keeper : Keeper). keeper.hosts) c.args.keeper.now c.args.most c.args.number c.args.lines.now c.args.desks.now c.requires.hosts c.requires.room.1 c.requires.desks

pub returns : goal.returns
returns g c =
    desks_after c.run_phase.result (λ (keeper : Keeper). keeper.hosts) c.args.keeper.now c.args.most c.args.number c.args.lines.now c.args.desks.now c.run_phase.new.passes c.requires.hosts c.requires.desks
    c.run_phase.ensures.served
