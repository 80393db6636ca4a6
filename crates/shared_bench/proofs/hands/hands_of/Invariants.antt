use Rattle.std.specs.{List.All, Vec.Iter.into_iter_items}
use Rattle.shared_device.specs.Passing.{IsOneOf}
use Rattle.shared_bench.proofs.hands.hands_of.Given as goal

abbrev pub invariant-loop-pass : goal.invariant-loop-pass
invariant-loop-pass l = All (λ p. IsOneOf l.shared p) (into_iter_items l.pass-iterator)
