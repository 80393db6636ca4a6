use Rattle.shared_bench.proofs.Rights.{all_of}
use Rattle.shared_bench.proofs.work_shared.Goals as goal

pub hands_of-requires-clause-of : goal.hands_of-requires-clause-of
hands_of-requires-clause-of g c = all_of _ _ _ c.in_ok-shared.ensures.each
