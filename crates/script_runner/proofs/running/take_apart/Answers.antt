use Rattle.script_runner.proofs.AllRan.{are_all_passes, thread_run}
use Rattle.script_runner.proofs.running.take_apart.Goals as goal

pub close-requires : goal.close-requires
close-requires c = record { all = are_all_passes c.args.device c.args.script.now c.args.passes.items c.requires.done }

pub returns-in-Ok-clause-journal : goal.returns-in-Ok-clause-journal
returns-in-Ok-clause-journal c =
    thread_run c.args.device c.args.script.now c.args.passes.items c.requires.done c.in-Ok.left.0.entries c.in-Ok.left.1.items c.in-Ok.ensures.journal c.requires.script
    c.hosts-hosts.ensures.sound c.law_isolated.ensures c.law_served_cover.ensures
