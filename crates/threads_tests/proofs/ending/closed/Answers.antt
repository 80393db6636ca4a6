use Rattle.threads_tests.proofs.Passes.{all_again, all_passes}
use Rattle.threads_tests.proofs.ending.closed.Goals as goal

pub close-requires : goal.close-requires
close-requires g c = record { all = all_passes c.args.device.shared c.args.device.passes.items c.args.device.all }

pub close-requires-in-Err : goal.close-requires-in-Err
close-requires-in-Err g c = record { all = all_again _ _ _ _ c.in-Err.ensures.kept.0 c.in-Err.ensures.kept.1 c.args.device.all }
