use Rattle.std.proofs.Common.{◌≡◌, length}
use Rattle.threads_tests.specs.Desks.{AreDesks}
use Rattle.threads_tests.proofs.desks.desks_of.Given as goal

abbrev pub invariant-loop-number : goal.invariant-loop-number
invariant-loop-number l = record {
  desks : AreDesks l.hosts l.lanes 0 0 l.desks.items;
  count : length l.desks.items ≡ l.number;
}
