use Rattle.threads_tests.proofs.Passes.{all_new}
use Rattle.threads_tests.proofs.two_hosts.TwoHosts.start.Goals as goal

pub invariant_of-result-clause-all : goal.invariant_of-result-clause-all
invariant_of-result-clause-all c = all_new _ _ _ _ c.in_ok-shared.ensures.count c.in_ok-shared.ensures.seats c.in_ok-shared.ensures.each
