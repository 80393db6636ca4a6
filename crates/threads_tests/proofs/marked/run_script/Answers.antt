use Rattle.std.proofs.Common.{arith}
use Rattle.threads_tests.{proofs.DeskSteps.desks_ready, specs.declared.keeper.Keeper.Keeper}
use Rattle.threads_tests.proofs.marked.run_script.Goals as goal

pub run_phases-requires-clause-ready : goal.run_phases-requires-clause-ready
run_phases-requires-clause-ready g c κs within =
    let few = c.requires.few in
    desks_ready (λ (keeper : Keeper). keeper.hosts) c.args.keeper.now 0 1 c.args.lines.now c.args.desks.now c.requires.hosts (omega (arith, few)) c.requires.desks
